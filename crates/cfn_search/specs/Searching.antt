-- What holds of the pool of a search.
use Rattle.std.specs.Prelude.{◌≡◌, ◌↔◌, ℕ, ◌<◌, ◌≤◌, ◌⊎◌, Bool, List, ◌∷◌, Contains, is_some}
use Rattle.cfn_model.specs.declared.report.Row.{Row}
use Rattle.cfn_model.specs.declared.step.Event.{Event}
use Rattle.cfn_model.specs.Network.{Network}
use Rattle.cfn_low.specs.Outcome.{Start}
use Rattle.cfn_explore.specs.Values.{TaskValue, PieceValue}
use Rattle.cfn_pool.specs.Answers.{IsGiven, NotesOrWaits, Sweeps}
use Rattle.cfn_explore.specs.Exploring.{Keeping, IsPieceOf}
use Rattle.cfn_machine.specs.Parts.{IsAside}
use Rattle.cfn_machine.specs.Pool.{Pool, Task}
use Rattle.cfn_machine.specs.Steps.{PoolTakes, PoolReturns, IsOut, IsNotOut, HasNone, NoneOpen, AllSpent, AllOut}
use Rattle.cfn_pool.specs.Recorded.{HasSpare}
use Rattle.cfn_pool.specs.Views.{Held, pool}
use Rattle.cfn_search.specs.declared.steps.Asked.{Asked}
use Rattle.cfn_search.specs.declared.steps.Asked.TheVariants as asked
use Rattle.cfn_search.specs.declared.hand.Unplaced.{Unplaced}
use Rattle.cfn_search.specs.declared.hand.Unplaced.TheVariants.{Late, Memory}

-- It began as a search begins, and exactly the leaves that it leaves to others are set aside.
pub record IsSearch (start : Start) (pool : Pool) : Type 0 where
  pub begun_is : pool.begun ≡ start.begun
  pub others : List Row
  pub begin : pool.rows ≡ start.first ∷ others
  pub aside : (path : List Event) → Contains start.aside path ↔ IsAside pool.tree path

-- From one pool of a search to another: the budget and the shares of the word stay, and what was seen never rises.
pub record GoesOn (start : Start) (old new : Pool) : Type 0 where
  pub search : IsSearch start new
  pub budget_is : new.budget ≡ old.budget
  pub shares_are : new.view.shares ≡ old.view.shares
  pub falls : new.view.seen ≤ old.view.seen

-- There are more nodes than before, and no more than the budget allows.
pub record HasMore (old new : Pool) : Type 0 where
  pub more : old.nodes < new.nodes
  pub within : new.nodes ≤ new.budget

-- A record is kept of a pool where one was kept of it before, and has room for two more entries besides two for each leaf that is out.
pub record StaysReady (old new : Held) : Type 0 where
  pub kept : is_some new.recorded ≡ is_some old.recorded
  pub spare : HasSpare 2 new.recorded

-- A worker that asks for a leaf gets a task of the network, or there is none for one reason; where there is no memory for the
-- leaf's path nothing changes.
abbrev pub Asks : Network → Held → ℕ → ℕ → Asked → Held → Type 0
Asks P old worker want (asked.Task task) new = (task.network ≡ P) × PoolTakes P (pool old) worker want task.task (pool new)
Asks P old worker want asked.Later new = (new ≡ old) × HasNone (pool old) AllOut
Asks P old worker want asked.Done new = (new ≡ old) × HasNone (pool old) NoneOpen
Asks P old worker want asked.Spent new = (new ≡ old) × HasNone (pool old) AllSpent
Asks P old worker want asked.Memory new = new ≡ old

-- A piece is made of a task at a threshold, with what is kept of its tree, and ended as exploring does.
pub record IsMadeOf (keeps : Keeping) (task : TaskValue) (granted : ℕ) (timed : Bool) (k : ℕ) (piece : PieceValue) : Type 0 where
  pub cut : Bool
  pub piece_is : IsPieceOf keeps task granted timed k piece cut

-- Where the pool has seen less than before, what need not be searched is closed, and else nothing changes.
pub record SweepsBelow (P : Network) (before : ℕ) (old new : Pool) : Type 0 where
  pub falls : old.view.seen < before → Sweeps P old new
  pub stays : before ≤ old.view.seen → new ≡ old

-- What becomes of the pool where a piece is handed in, with a note of what its worker had seen: the piece takes its leaf's place,
-- a row of bounds is noted where one is due, and the pool is swept where its threshold has fallen.
pub record HandsIn (P : Network) (old : Pool) (piece : PieceValue) (note : ℕ) (new : Pool) : Type 0 where
  pub given : Pool
  pub gives : IsGiven P old piece note given
  pub noted : Pool
  pub notes : NotesOrWaits P given noted
  pub sweeps : SweepsBelow P old.view.seen noted new

-- A task's leaf is free again; or it was not out as the task says, and nothing changes.
abbrev pub IsReturned : Held → Task → Held → Type 0
IsReturned old task new = PoolReturns (pool old) task (pool new) ⊎ ((new ≡ old) × IsNotOut (pool old) task)

-- A piece is not in its leaf's place: its leaf was not out at the end of its task's path, and nothing changes; or there was no
-- memory for it, and its leaf is free again.
abbrev pub IsUnplaced : Held → Task → Unplaced → Held → Type 0
IsUnplaced old task Late new = (new ≡ old) × (IsOut (pool old) task → ⊥)
IsUnplaced old task Memory new = IsReturned old task new

-- The pool of a search under the lock, while workers have parts of the word.
use Rattle.std.specs.Prelude.{◌≡◌, true, false, IsTrue, IsFalse, ℕ, ◌+◌, ◌<◌, ◌≤◌, ◌⊎◌, Bool, List, [], ◌∷◌, ◌++◌, length, is_some}
use Rattle.cfn_model.specs.Network.{Network}
use Rattle.cfn_low.specs.Outcome.{Start}
use Rattle.cfn_machine.specs.Pool.{Pool}
use Rattle.cfn_machine.specs.Steps.{PoolTakes, HasNone, NoneOpen, AllSpent, AllOut}
use Rattle.cfn_machine.specs.Word.{all_shares}
use Rattle.cfn_pool.specs.Recorded.{HasSpare}
use Rattle.cfn_pool.specs.Views.{Held, pool}
use Rattle.cfn_rota.specs.Values.{EndsValue}
use Rattle.cfn_explore.specs.Values.{TaskValue, PieceValue}
use Rattle.cfn_search.specs.declared.board.Offer.{Offer}
use Rattle.cfn_search.specs.declared.board.Offer.TheVariants as offer
use Rattle.cfn_search.specs.declared.hand.Unplaced.{Unplaced}
use Rattle.cfn_search.specs.declared.hand.Unplaced.TheVariants.{Late, Memory}
use Rattle.cfn_search.specs.Searching.{IsSearch, HandsIn, IsUnplaced}

-- What contracts see of a board: the pool, how often it changed, and whether memory was refused for a piece.
pub record BoardValue : Type 0 where
  pub held : Held
  pub changes : ℕ
  pub stopped : Bool

-- It is a search's, with this budget, and has all shares of the word but those of the workers. A record is kept where one was begun,
-- and has room for what may be recorded.
pub record IsBoard (start : Start) (budget crew : ℕ) (recorded : Bool) (held : Held) : Type 0 where
  pub search : IsSearch start (pool held)
  pub budget_is : (pool held).budget ≡ budget
  pub shares : (pool held).view.shares + crew ≡ all_shares
  pub kept : is_some held.recorded ≡ recorded
  pub spare : HasSpare 2 held.recorded

-- A task that is offered is of the network.
abbrev pub IsOffered : Network → Offer → Type 0
IsOffered P (offer.Task task more) = task.network ≡ P
IsOffered P (offer.Later changes) = Unit {0}
IsOffered P offer.Stopped = Unit {0}
IsOffered P offer.Done = Unit {0}
IsOffered P offer.Spent = Unit {0}
IsOffered P offer.Memory = Unit {0}

-- A worker takes leaves one after another, each as a task of the network.
abbrev pub TakesAll : Network → ℕ → ℕ → Pool → List TaskValue → Pool → Type 0
TakesAll P worker want old [] new = new ≡ old
TakesAll P worker want old (task ∷ tasks) new =
    (task.network ≡ P) × (between : Pool) × PoolTakes P old worker want task.task between × TakesAll P worker want between tasks new

-- These tasks are pushed to a worker's lane.
abbrev pub laid : EndsValue TaskValue → List TaskValue → EndsValue TaskValue
laid lanes tasks = record lanes { lane = record lanes.lane { pushed = lanes.lane.pushed ++ tasks } }

-- A worker takes one leaf more, whose task lies in its lane then.
pub record IsLaid (P : Network) (worker want : ℕ) (old : Pool) (lanes : EndsValue TaskValue) (new : Pool) (after : EndsValue TaskValue) : Type 0 where
  pub task : TaskValue
  pub own : task.network ≡ P
  pub takes : PoolTakes P old worker want task.task new
  pub lanes_are : after ≡ laid lanes (task ∷ [])

-- A worker takes so many leaves more at most, whose tasks lie in its lane then; and it is told whether there were some.
pub record Lays (P : Network) (worker want most : ℕ) (old : Pool) (lanes : EndsValue TaskValue) (more : Bool) (new : Pool) (after : EndsValue TaskValue) : Type 0 where
  pub tasks : List TaskValue
  pub few : length tasks ≤ most
  pub taken : TakesAll P worker want old tasks new
  pub lanes_are : after ≡ laid lanes tasks
  pub some : IsTrue more → 0 < length tasks
  pub none : IsFalse more → tasks ≡ []

-- Neither the board nor the lanes change.
abbrev pub AreSame : BoardValue → EndsValue TaskValue → BoardValue → EndsValue TaskValue → Type 0
AreSame old lanes new after = (new ≡ old) × (after ≡ lanes)

-- A worker that asks for a leaf gets a task of the network, and up to three more in its lane; or there is none for one reason. Where
-- there is no memory for the leaf's path nothing changes.
abbrev pub Offers : Network → ℕ → ℕ → BoardValue → EndsValue TaskValue → Offer → BoardValue → EndsValue TaskValue → Type 0
Offers P worker want old lanes (offer.Task task more) new after =
    (task.network ≡ P) × (old.stopped ≡ false) × (new.stopped ≡ false)
    × (given : Pool) × PoolTakes P (pool old.held) worker want task.task given × Lays P worker want 3 given lanes more (pool new.held) after
Offers P worker want old lanes (offer.Later changes) new after =
    AreSame old lanes new after × (old.stopped ≡ false) × (changes ≡ old.changes) × HasNone (pool old.held) AllOut
Offers P worker want old lanes offer.Stopped new after = AreSame old lanes new after × (old.stopped ≡ true)
Offers P worker want old lanes offer.Done new after = AreSame old lanes new after × (old.stopped ≡ false) × HasNone (pool old.held) NoneOpen
Offers P worker want old lanes offer.Spent new after = AreSame old lanes new after × (old.stopped ≡ false) × HasNone (pool old.held) AllSpent
Offers P worker want old lanes offer.Memory new after = AreSame old lanes new after × (old.stopped ≡ false)

-- The search stops where memory was refused for a piece, and stays stopped.
abbrev pub stops : Unplaced → Bool → Bool
stops Late stopped = stopped
stops Memory stopped = true

-- A piece is handed in; or it is not in its leaf's place for one reason.
abbrev pub IsHanded : Network → BoardValue → PieceValue → ℕ → BoardValue → Type 0
IsHanded P old piece note new =
    (HandsIn P (pool old.held) piece note (pool new.held) × (new.stopped ≡ old.stopped))
    ⊎ ((why : Unplaced) × IsUnplaced old.held piece.task why new.held × (new.stopped ≡ stops why old.stopped))

-- What the pool's calls answer, each by a step of the pool.
use Rattle.std.specs.Prelude.{◌≡◌, ℕ, ◌≤◌, ◌⊎◌, length, Option}
use Rattle.cfn_model.specs.Network.{Network}
use Rattle.cfn_explore.specs.Values.{PieceValue, piece_of}
use Rattle.cfn_machine.specs.Pool.{Pool, price}
use Rattle.cfn_machine.specs.Word.{all_shares}
use Rattle.cfn_machine.specs.Steps.{PoolTakes, PoolGives, PoolSweeps, PoolNotes, IsOut, HasNone, NoneOpen, AllSpent, AllOut}
use Rattle.cfn_leaves.specs.declared.taking.Taken.{Taken}
use Rattle.cfn_leaves.specs.declared.taking.Taken.TheVariants.{Given, Empty, Spent, Again, Memory as NoMemory}
use Rattle.cfn_pool.specs.Recorded.{RecordingValue, Adds, gave}
use Rattle.cfn_pool.specs.Views.{Held, pool}
use Rattle.cfn_pool.specs.declared.steps.Handed.{Handed}
use Rattle.cfn_pool.specs.declared.steps.Handed.TheVariants.{Done, Gone, Memory}

-- A task of the network is handed out, or there is none for one reason; where there is no memory for the path nothing
-- changes.
abbrev pub Takes : Network → Held → ℕ → ℕ → Taken → Held → Type 0
Takes P old worker want (Given task) new = (task.network ≡ P) × PoolTakes P (pool old) worker want task.task (pool new)
Takes P old worker want Empty new = (new ≡ old) × HasNone (pool old) NoneOpen
Takes P old worker want Spent new = (new ≡ old) × HasNone (pool old) AllSpent
Takes P old worker want Again new = (new ≡ old) × HasNone (pool old) AllOut
Takes P old worker want NoMemory new = new ≡ old

-- The piece takes the place of its leaf, and the pool sees the word, which is no more than it and the note had seen, and at most
-- the price of what it keeps, which it is where all shares are there.
pub record IsGiven (P : Network) (old : Pool) (piece : PieceValue) (note : ℕ) (new : Pool) : Type 0 where
  pub word : ℕ
  pub falls : word ≤ old.view.seen
  pub noted : word ≤ note
  pub below : word ≤ price P old.view.best
  pub whole : old.view.shares ≡ all_shares → word ≡ price P old.view.best
  pub gives : PoolGives old word (piece_of piece) new

-- It does; or the leaf is not out as the task says; or there is no memory. In the last two cases piece and note are given
-- back, and nothing changes.
abbrev pub Gives : {M : Type 0} → Network → Held → PieceValue → ℕ → Handed M → Held → Type 0
Gives P old piece note Done new = IsGiven P (pool old) piece note (pool new)
Gives P old piece note (Gone given told) new = (given ≡ piece) × (told ≡ note) × (new ≡ old) × (IsOut (pool old) piece.task → ⊥)
Gives P old piece note (Memory given told) new = (given ≡ piece) × (told ≡ note) × (new ≡ old)

-- A piece that is in its leaf's place is recorded, with the threshold that the pool has seen afterwards; else nothing changes.
abbrev pub AddsGiven : {M : Type 0} → Option RecordingValue → PieceValue → ℕ → Handed M → Option RecordingValue → Type 0
AddsGiven old piece seen Done new = Adds old (gave piece seen) new
AddsGiven old piece seen (Gone given told) new = new ≡ old
AddsGiven old piece seen (Memory given told) new = new ≡ old

-- The pool sees the word, which is no more than it had seen, and at most the price of what it keeps, which it is where all
-- shares are there; and free leaves are closed.
pub record Sweeps (P : Network) (old new : Pool) : Type 0 where
  pub word : ℕ
  pub falls : word ≤ old.view.seen
  pub below : word ≤ price P old.view.best
  pub whole : old.view.shares ≡ all_shares → word ≡ price P old.view.best
  pub sweeps : PoolSweeps P old word new

-- The pool notes a row of bounds; or nothing changes, where there are 128 rows already.
abbrev pub NotesOrWaits : Network → Pool → Pool → Type 0
NotesOrWaits P old new = PoolNotes P old new ⊎ ((new ≡ old) × (128 ≤ length old.rows))

-- What comes of a piece that is given.
use Rattle.std.specs.Prelude.{◌≡◌, ℕ, Some}
use Rattle.cfn_machine.specs.Pool.{View, Task}
use Rattle.cfn_machine.specs.Steps.{PoolGives, IsOut}
use Rattle.cfn_explore.specs.Values.{PieceValue, piece_of}
use Rattle.cfn_leaves.specs.declared.entry.Entry.{Entry}
use Rattle.cfn_leaves.specs.declared.entry.Mark.TheVariants as held
use Rattle.cfn_leaves.specs.declared.giving.Handed.{Handed}
use Rattle.cfn_leaves.specs.declared.giving.Handed.TheVariants.{Done, Gone, Memory}
use Rattle.cfn_leaves.specs.Standing.{entry_at}
use Rattle.cfn_leaves.specs.Ways.{IsPathOf}
use Rattle.cfn_leaves.specs.Value.{Holding, pool_of}

-- The entry of a leaf that is out as a task says.
pub record IsTaskEntry (h : Holding) (task : Task) (e : Entry) : Type 0 where
  pub is : entry_at h.table task.leaf ≡ Some e
  pub mark : e.mark ≡ held.Out task.worker task.grant
  pub of : IsPathOf h.tree e.node.number task.path

-- The piece takes the place of its leaf, whatever the word is that the pool sees then; or its leaf is not out as the task
-- says; or there is no memory. In the last two cases the piece is given back, and nothing changes.
abbrev pub Gives : Holding → PieceValue → Handed → Holding → Type 0
Gives old piece Done new = (view : View) (word : ℕ) → PoolGives (pool_of old view) word (piece_of piece) (pool_of new (record view { seen = word }))
Gives old piece (Gone given) new = (given ≡ piece) × (new ≡ old) × ((view : View) → IsOut (pool_of old view) piece.task → ⊥)
Gives old piece (Memory given) new = (given ≡ piece) × (new ≡ old)

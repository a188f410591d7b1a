-- A leaf that is out, by its number, the worker that has it, and its grant.
use Rattle.std.specs.Prelude.{◌≡◌, ℕ, List, [], Some}
use Rattle.cfn_model.specs.declared.step.Event.{Event}
use Rattle.cfn_model.specs.Tree.{Tree}
use Rattle.cfn_machine.specs.Pool.{Out, IsLeaf, Task, Piece, View}
use Rattle.cfn_machine.specs.Steps.{PoolGives}
use Rattle.cfn_proof.specs.declared.tree.Node.{Node}
use Rattle.cfn_proof.specs.Nodes.{tree_of}
use Rattle.cfn_leaves.specs.declared.entry.Entry.{Entry}
use Rattle.cfn_leaves.specs.declared.entry.Mark.TheVariants as held
use Rattle.cfn_leaves.specs.declared.placed.Placed.{Placed}
use Rattle.cfn_leaves.specs.declared.placed.Placed.TheVariants.{Done, Gone, Memory}
use Rattle.cfn_leaves.specs.Standing.{entry_at}
use Rattle.cfn_leaves.specs.Value.{Holding, pool_of, pool_tree}

-- The leaf is out to the worker with the grant.
abbrev pub IsOutTo : Holding → ℕ → ℕ → ℕ → Type 0
IsOutTo h leaf worker grant = (path : List Event) × IsLeaf (pool_tree h) [] leaf (Out worker grant) path

-- The leaf of a task is out as the task says.
abbrev pub IsTaskOut : Holding → Task → Type 0
IsTaskOut h task = IsLeaf (pool_tree h) [] task.leaf (Out task.worker task.grant) task.path

-- The entry of such a leaf.
pub record IsOutEntry (h : Holding) (leaf worker grant : ℕ) (e : Entry) : Type 0 where
  pub is : entry_at h.table leaf ≡ Some e
  pub mark : e.mark ≡ held.Out worker grant
  pub out : IsOutTo h leaf worker grant

-- The task of such a leaf, and what is made of it.
abbrev pub task_at : ℕ → ℕ → ℕ → ℕ → List Event → Task
task_at leaf worker grant floor path = record { leaf = leaf; worker = worker; grant = grant; floor = floor; path = path }

abbrev pub piece_at : Task → Tree → ℕ → Piece
piece_at task tree threshold = record { task = task; tree = tree; threshold = threshold }

-- A tree takes the place of such a leaf, as a piece made at any threshold, whatever the word is that the pool sees then.
pub record PutsIn (old : Holding) (leaf worker grant : ℕ) (tree : Tree) (new : Holding) : Type 0 where
  pub out : IsOutTo old leaf worker grant
  pub gives : (path : List Event) → IsLeaf (pool_tree old) [] leaf (Out worker grant) path → (floor threshold : ℕ) (view : View) (word : ℕ)
      → PoolGives (pool_of old view) word (piece_at (task_at leaf worker grant floor path) tree threshold) (pool_of new (record view { seen = word }))

-- The tree takes the leaf's place; or the leaf is not out to the worker with the grant; or there is no memory. In the last two
-- cases the tree is given back, and nothing changes.
abbrev pub Puts : Holding → ℕ → ℕ → ℕ → List Node → Placed → Holding → Type 0
Puts old leaf worker grant nodes Done new = PutsIn old leaf worker grant (tree_of nodes) new
Puts old leaf worker grant nodes (Gone given) new = (given ≡ nodes) × (new ≡ old) × (IsOutTo old leaf worker grant → ⊥)
Puts old leaf worker grant nodes (Memory given) new = (given ≡ nodes) × (new ≡ old)

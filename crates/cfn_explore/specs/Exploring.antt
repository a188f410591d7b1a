-- What is made of a task that is explored.
use Rattle.std.specs.Prelude.{◌≡◌, true, ℕ, ◌≤◌, ◌⊎◌, ◌↔◌, Bool, List}
use Rattle.cfn_model.specs.declared.step.Event.{Event}
use Rattle.cfn_model.specs.Network.{Network}
use Rattle.cfn_model.specs.Tree.{Tree, count, open_leaves}
use Rattle.cfn_proof.specs.Nodes.{tree_of}
use Rattle.cfn_explore.specs.Values.{TaskValue, PieceValue}
use Rattle.cfn_explore.specs.declared.explore.Explored.{Explored}
use Rattle.cfn_explore.specs.declared.explore.Explored.TheVariants.{Piece, Memory}
use Rattle.cfn_explore.specs.Backtracks.{backtracks}

-- Why exploring ends: no leaf is open, or all nodes were made, or all backtracks, or it may be halted. It was cut where it made
-- all backtracks, and it makes no more.
pub record HasEnded (grant granted : ℕ) (timed : Bool) (tree : Tree) (cut : Bool) : Type 0 where
  pub cut_is : (cut ≡ true) ↔ (granted ≤ backtracks tree)
  pub within : backtracks tree ≤ granted
  pub ends : (open_leaves tree ≡ 0) ⊎ ((count tree ≡ grant) ⊎ ((cut ≡ true) ⊎ (timed ≡ true)))

-- What is kept of a tree behind a path, in a network.
abbrev pub Keeping : Type 1
Keeping = Network → List Event → Tree → Type 0

-- A piece of the task at a threshold.
pub record IsPieceOf (keeps : Keeping) (task : TaskValue) (granted : ℕ) (timed : Bool) (k : ℕ) (piece : PieceValue) (cut : Bool) : Type 0 where
  pub network : piece.network ≡ task.network
  pub task_is : piece.task ≡ task.task
  pub threshold : piece.threshold ≡ k
  pub kept : keeps piece.network piece.task.path (tree_of piece.nodes)
  pub ended : HasEnded piece.task.grant granted timed (tree_of piece.nodes) cut

-- Such a piece, or the task itself.
abbrev pub IsExplored : Keeping → TaskValue → ℕ → Bool → ℕ → Explored → Type 0
IsExplored keeps task granted timed k (Piece piece cut) = IsPieceOf keeps task granted timed k piece cut
IsExplored keeps task granted timed k (Memory given) = given ≡ task

-- How a tree is made leaf by leaf.
use Rattle.std.specs.Prelude.{◌≡◌, ℕ, ◌+◌, ◌<◌, List, [], ◌∷◌, None, length}
use Rattle.cfn_model.specs.declared.step.Step.{Step}
use Rattle.cfn_model.specs.declared.step.Decision.{Decision}
use Rattle.cfn_model.specs.Tree as trees
use Rattle.cfn_proof.specs.declared.tree.Node.{Node}
use Rattle.cfn_proof.specs.Nodes.{node_at, open_node, IsFree, IsLinked, split_behind_at, close_at, leave_at, tree_of}
use Rattle.cfn_mending.specs.Making.{Makes, SameDue, SameBut}

-- One open leaf will be what is due there.
abbrev pub MakesFromOne : Type 0
MakesFromOne = (due : ℕ → trees.Tree) → Makes (open_node None ∷ []) due 0 (due 0)

-- The tree will be the same where the same is due.
abbrev pub MakesSame : Type 0
MakesSame = (nodes : List Node) (due new : ℕ → trees.Tree) (tree : trees.Tree) → SameDue nodes due new → Makes nodes due 0 tree → Makes nodes new 0 tree

-- A leaf at which a split is due is split behind its block, and its sides are due at the new children.
abbrev pub MakesSplit : Type 0
MakesSplit = (nodes : List Node) (due new : ℕ → trees.Tree) (i : ℕ) (block : List Step) (d : Decision) (tree : trees.Tree) → i < length nodes → IsFree nodes i →
    due i ≡ trees.Split block d (new (length nodes)) (new (length nodes + 1)) → SameBut nodes i due new → Makes nodes due 0 tree → Makes (split_behind_at nodes i block d) new 0 tree

-- A leaf at which a closed leaf is due is closed behind its block.
abbrev pub MakesClose : Type 0
MakesClose = (nodes : List Node) (due new : ℕ → trees.Tree) (i : ℕ) (block : List Step) (tree : trees.Tree) → i < length nodes → IsFree nodes i →
    due i ≡ trees.Closed block → SameBut nodes i due new → Makes nodes due 0 tree → Makes (close_at nodes i block) new 0 tree

-- A leaf is left open behind any block, and the same is due there.
abbrev pub MakesLeave : Type 0
MakesLeave = (nodes : List Node) (due : ℕ → trees.Tree) (i : ℕ) (block : List Step) (tree : trees.Tree) → i < length nodes → IsFree nodes i →
    Makes nodes due 0 tree → Makes (leave_at nodes i block) due 0 tree

-- Where at each open leaf the leaf itself is due, the tree is made.
abbrev pub MakesWhole : Type 0
MakesWhole = (nodes : List Node) (due : ℕ → trees.Tree) (tree : trees.Tree) → IsLinked nodes →
    ((i : ℕ) → i < length nodes → IsFree nodes i → due i ≡ trees.Open (node_at nodes i).block) → Makes nodes due 0 tree → tree_of nodes ≡ tree

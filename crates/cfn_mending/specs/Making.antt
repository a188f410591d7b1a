-- A tree in the making: what it will be, by what is due at each of its open leaves.
use Rattle.std.specs.Prelude.{◌≡◌, ◌≢◌, ℕ, ◌<◌, List, length}
use Rattle.cfn_model.specs.declared.step.Decision.{Decision}
use Rattle.cfn_model.specs.Tree as trees
use Rattle.cfn_proof.specs.declared.tree.NodeId.{NodeId}
use Rattle.cfn_proof.specs.declared.tree.End.TheVariants.{Shut, Split}
use Rattle.cfn_proof.specs.declared.tree.Node.{Node}
use Rattle.cfn_proof.specs.Nodes.{node_at, IsFree}

-- From a node on the tree will be this one, where at each open leaf this is due: an open leaf will be what is due there,
-- a closed one stays as it is, and a split will have what its children will be.
pub data Makes (nodes : List Node) (due : ℕ → trees.Tree) : ℕ → trees.Tree → Type 0 where
  at_due : {i : ℕ} {tree : trees.Tree} → i < length nodes → IsFree nodes i → tree ≡ due i → Makes nodes due i tree
  at_shut : {i : ℕ} {tree : trees.Tree} → i < length nodes → (node_at nodes i).end ≡ Shut → tree ≡ trees.Closed (node_at nodes i).block → Makes nodes due i tree
  at_split : {i : ℕ} {tree : trees.Tree} (d : Decision) (first second : NodeId) (one two : trees.Tree) → i < length nodes → (node_at nodes i).end ≡ Split d first second →
      Makes nodes due first.number one → Makes nodes due second.number two → tree ≡ trees.Split (node_at nodes i).block d one two → Makes nodes due i tree

-- The same is due at all nodes that are there; and at all of them but one.
abbrev pub SameDue : List Node → (ℕ → trees.Tree) → (ℕ → trees.Tree) → Type 0
SameDue nodes due new = (j : ℕ) → j < length nodes → new j ≡ due j

abbrev pub SameBut : List Node → ℕ → (ℕ → trees.Tree) → (ℕ → trees.Tree) → Type 0
SameBut nodes i due new = (j : ℕ) → j < length nodes → j ≢ i → new j ≡ due j

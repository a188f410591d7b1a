-- The stack of a depth-first search: where its current leaf is in the tree, and which leaves wait beside the way to it.
use Rattle.std.specs.Prelude.{◌≡◌, ◌≢◌, ℕ, ◌<◌, List, [], ◌∷◌, length}
use Rattle.std.specs.List.{AllByRecursion}
use Rattle.cfn_model.specs.declared.step.Decision.{Decision}
use Rattle.cfn_model.specs.declared.step.Event.{Event}
use Rattle.cfn_model.specs.declared.step.Event.TheVariants.{Took, Refused}
use Rattle.cfn_model.specs.Steps.{after}
use Rattle.cfn_model.specs.Tree.{open_leaves}
use Rattle.cfn_proof.specs.declared.tree.NodeId.{NodeId}
use Rattle.cfn_proof.specs.declared.tree.End.TheVariants.{Split}
use Rattle.cfn_proof.specs.declared.tree.Node.{Node}
use Rattle.cfn_proof.specs.Nodes.{node_at, tree_at, IsFree}

-- A leaf's number, and what stands before it.
pub record Place : Type 0 where
  pub leaf : ℕ
  pub path : List Event

-- A node that is there is an open leaf with an empty block.
pub record IsOpenLeaf (nodes : List Node) (i : ℕ) : Type 0 where
  pub there : i < length nodes
  pub free : IsFree nodes i
  pub empty : (node_at nodes i).block ≡ []

-- A number is that of none of some leaves.
abbrev pub IsNone : ℕ → List Place → Type 0
IsNone i places = AllByRecursion (λ (p : Place). p.leaf ≢ i) places

-- Below a node, with what stands before it: it is the current leaf; or the way to that goes through its first child, and the
-- second one waits, open; or the way goes through its second child, and below the first no leaf is open. The leaves that wait
-- are listed from the root on.
pub data Stack (nodes : List Node) : ℕ → List Event → Place → List Place → Type 0 where
  at_leaf : {i : ℕ} {history : List Event} {current : Place} {waiting : List Place} → IsOpenLeaf nodes i → current ≡ record { leaf = i; path = history } → waiting ≡ [] → Stack nodes i history current waiting
  in_first : {i : ℕ} {history : List Event} {current : Place} {waiting : List Place} (d : Decision) (first second : NodeId) (deeper : List Place) → i < length nodes → (node_at nodes i).end ≡ Split d first second → IsOpenLeaf nodes second.number → IsNone second.number (current ∷ deeper) → Stack nodes first.number (Took d ∷ after (node_at nodes i).block history) current deeper → waiting ≡ record { leaf = second.number; path = Refused d ∷ after (node_at nodes i).block history } ∷ deeper → Stack nodes i history current waiting
  in_second : {i : ℕ} {history : List Event} {current : Place} {waiting : List Place} (d : Decision) (first second : NodeId) → i < length nodes → (node_at nodes i).end ≡ Split d first second → open_leaves (tree_at nodes first.number) ≡ 0 → Stack nodes second.number (Refused d ∷ after (node_at nodes i).block history) current waiting → Stack nodes i history current waiting

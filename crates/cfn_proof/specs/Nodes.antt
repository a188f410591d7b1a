-- What a list of nodes means as a tree.
use Rattle.std.specs.Prelude.{◌≡◌, ℕ, zero, suc, ◌+◌, ◌-◌, ◌<◌, ◌≤◌, ◌^◌, List, [], ◌∷◌, ◌++◌, length, map, drop, slice_index_or, slice_set, Bool, false, ◌||◌, ◌==◌, Option, Some, None, IsTrue}
use Rattle.std.specs.List.{AllByRecursion}
use Rattle.cfn_model.specs.declared.step.Step.{Step}
use Rattle.cfn_model.specs.declared.step.Decision.{Decision}
use Rattle.cfn_model.specs.declared.step.Event.{Event}
use Rattle.cfn_model.specs.declared.step.Event.TheVariants.{Took, Refused}
use Rattle.cfn_model.specs.Steps.{after}
use Rattle.cfn_model.specs.Tree as trees
use Rattle.cfn_model.specs.Text.{IsSpelledStep, IsSpelledDecision}
use Rattle.cfn_proof.specs.declared.tree.NodeId.{NodeId}
use Rattle.cfn_proof.specs.declared.tree.End.{End}
use Rattle.cfn_proof.specs.declared.tree.End.TheVariants.{Free, Shut, Split}
use Rattle.cfn_proof.specs.declared.tree.Node.{Node}

-- An open leaf with an empty block, and the node with a number, where there is one.
abbrev pub open_node : Option NodeId → Node
open_node parent = record { parent = parent; block = []; end = Free }

abbrev pub node_at : List Node → ℕ → Node
node_at nodes i = slice_index_or nodes i (open_node None)

-- The steps of all blocks, one behind the other.
abbrev pub all_steps : List Node → List Step
all_steps [] = []
all_steps (node ∷ nodes) = node.block ++ all_steps nodes

-- A node as a tree, over the trees of what its children's numbers name.
abbrev pub with_children : List Step → End → (ℕ → trees.Tree) → trees.Tree
with_children block Free child = trees.Open block
with_children block Shut child = trees.Closed block
with_children block (Split d first second) child = trees.Split block d (child first.number) (child second.number)

-- The trees of the nodes from the number base on, each made of trees behind it.
abbrev pub trees_from : ℕ → List Node → List trees.Tree
trees_from base [] = []
trees_from base (node ∷ nodes) =
    with_children node.block node.end (λ i. slice_index_or (trees_from (base + 1) nodes) (i - (base + 1)) (trees.Open [])) ∷ trees_from (base + 1) nodes

-- The tree that begins at a node, and the whole tree.
abbrev pub tree_at : List Node → ℕ → trees.Tree
tree_at nodes i = slice_index_or (trees_from 0 nodes) i (trees.Open [])

abbrev pub tree_of : List Node → trees.Tree
tree_of nodes = tree_at nodes 0

-- Whether a node's end names a child.
abbrev pub names_child : End → ℕ → Bool
names_child Free i = false
names_child Shut i = false
names_child (Split d first second) i = (first.number == i) || (second.number == i)

-- The children of a node stand behind it, differ, and know it as their parent.
pub record IsFamily (nodes : List Node) (i first second : ℕ) : Type 0 where
  pub first_behind : i < first
  pub first_there : first < length nodes
  pub second_behind : i < second
  pub second_there : second < length nodes
  pub different : first ≡ second → ⊥
  pub first_knows : (node_at nodes first).parent ≡ Some (record { number = i })
  pub second_knows : (node_at nodes second).parent ≡ Some (record { number = i })

-- Parents and children know each other, and a parent stands before its children.
pub record IsLinked (nodes : List Node) : Type 0 where
  pub some : 0 < length nodes
  pub few : length nodes ≤ 2 ^ 32
  pub root : (node_at nodes 0).parent ≡ None
  pub only_root : (i : ℕ) → i < length nodes → (node_at nodes i).parent ≡ None → i ≡ 0
  pub children : (i : ℕ) (d : Decision) (first second : NodeId) → i < length nodes → (node_at nodes i).end ≡ Split d first second → IsFamily nodes i first.number second.number
  pub parents : (i : ℕ) (parent : NodeId) → i < length nodes → (node_at nodes i).parent ≡ Some parent → (parent.number < i) × IsTrue (names_child (node_at nodes parent.number).end i)

-- What stands before a node's block, the newest event first: nothing before the root's; before a child's what stands
-- before its parent's end, and the decision.
pub data Before (nodes : List Node) : ℕ → List Event → Type 0 where
  at_root : {i : ℕ} {history : List Event} → i ≡ 0 → history ≡ [] → Before nodes i history
  at_first : {i : ℕ} {history : List Event} (parent : ℕ) (d : Decision) (first second : NodeId) (above : List Event) → parent < length nodes → (node_at nodes parent).end ≡ Split d first second → Before nodes parent above → i ≡ first.number → history ≡ Took d ∷ after (node_at nodes parent).block above → Before nodes i history
  at_second : {i : ℕ} {history : List Event} (parent : ℕ) (d : Decision) (first second : NodeId) (above : List Event) → parent < length nodes → (node_at nodes parent).end ≡ Split d first second → Before nodes parent above → i ≡ second.number → history ≡ Refused d ∷ after (node_at nodes parent).block above → Before nodes i history

-- A leaf split behind a block by a decision, its children put behind all nodes; and one split behind its own block.
abbrev pub split_end : Decision → ℕ → End
split_end d n = Split d (record { number = n }) (record { number = n + 1 })

abbrev pub split_behind_at : List Node → ℕ → List Step → Decision → List Node
split_behind_at nodes i block d =
    slice_set nodes i (record (node_at nodes i) { block = block; end = split_end d (length nodes) }) ++ open_node (Some (record { number = i })) ∷ open_node (Some (record { number = i })) ∷ []

abbrev pub split_at : List Node → ℕ → Decision → List Node
split_at nodes i d = split_behind_at nodes i (node_at nodes i).block d

-- A leaf closed behind a block.
abbrev pub close_at : List Node → ℕ → List Step → List Node
close_at nodes i block = slice_set nodes i (record (node_at nodes i) { block = block; end = Shut })

-- A leaf that stays open, behind a block.
abbrev pub leave_at : List Node → ℕ → List Step → List Node
leave_at nodes i block = slice_set nodes i (record (node_at nodes i) { block = block })

-- Where a node of a piece stands once the piece's root has taken the place of the node i of a tree of n nodes: the root
-- at i, and the others, in their order, behind those of the tree.
abbrev pub moved : ℕ → ℕ → ℕ → ℕ
moved i n zero = i
moved i n (suc m) = n + m

abbrev pub moved_parent : ℕ → ℕ → Option NodeId → Option NodeId
moved_parent i n None = None
moved_parent i n (Some parent) = Some (record { number = moved i n parent.number })

abbrev pub moved_end : ℕ → ℕ → End → End
moved_end i n Free = Free
moved_end i n Shut = Shut
moved_end i n (Split d first second) = Split d (record { number = moved i n first.number }) (record { number = moved i n second.number })

abbrev pub moved_node : ℕ → ℕ → Node → Node
moved_node i n node = record node { parent = moved_parent i n node.parent; end = moved_end i n node.end }

-- A tree after the root of a piece has taken the place of a leaf: the leaf's block goes on with the root's, the leaf
-- ends as the root does, and the piece's other nodes stand behind all nodes of the tree.
abbrev pub graft_at : List Node → ℕ → List Node → List Node
graft_at nodes i piece =
    slice_set nodes i (record (node_at nodes i) { block = (node_at nodes i).block ++ (node_at piece 0).block; end = moved_end i (length nodes) (node_at piece 0).end })
    ++ map (moved_node i (length nodes)) (drop 1 piece)

-- The numbers of the nodes that a node names stay below 2^32 where it is moved behind n nodes.
abbrev pub FitsParent : ℕ → Option NodeId → Type 0
FitsParent n None = Unit {0}
FitsParent n (Some parent) = n + parent.number ≤ 2 ^ 32

abbrev pub FitsEnd : ℕ → End → Type 0
FitsEnd n Free = Unit {0}
FitsEnd n Shut = Unit {0}
FitsEnd n (Split d first second) = (n + first.number ≤ 2 ^ 32) × (n + second.number ≤ 2 ^ 32)

abbrev pub FitsBehind : ℕ → Node → Type 0
FitsBehind n node = FitsParent n node.parent × FitsEnd n node.end

-- A node is an open leaf.
abbrev pub IsFree : List Node → ℕ → Type 0
IsFree nodes i = (node_at nodes i).end ≡ Free

-- The numbers of an end have a spelling.
abbrev pub IsSpelledEnd : End → Type 0
IsSpelledEnd Free = Unit {0}
IsSpelledEnd Shut = Unit {0}
IsSpelledEnd (Split d first second) = IsSpelledDecision d

-- The nodes of a tree: they are linked, and their steps and splits have a spelling.
pub record IsTree (nodes : List Node) : Type 0 where
  pub linked : IsLinked nodes
  pub blocks : (i : ℕ) → i < length nodes → AllByRecursion IsSpelledStep (node_at nodes i).block
  pub ends : (i : ℕ) → i < length nodes → IsSpelledEnd (node_at nodes i).end

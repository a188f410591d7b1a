-- How the nodes of a search tree and the table of its open leaves stand for the pool's tree.
use Rattle.std.specs.Prelude.{◌≡◌, ℕ, zero, suc, ◌+◌, ◌<◌, ◌≤◌, List, [], ◌∷◌, length, slice_index_or, Option, Some, None, if◌then◌else◌, ◌==◌}
use Rattle.cfn_model.specs.declared.step.Step.{Step}
use Rattle.cfn_model.specs.declared.step.Event.{Event}
use Rattle.cfn_model.specs.declared.step.Event.TheVariants.{Took, Refused}
use Rattle.cfn_model.specs.Network.{Network}
use Rattle.cfn_model.specs.Sums.{floor}
use Rattle.cfn_model.specs.Steps.{after}
use Rattle.cfn_proof.specs.declared.tree.NodeId.{NodeId}
use Rattle.cfn_proof.specs.declared.tree.End.{End}
use Rattle.cfn_proof.specs.declared.tree.End.TheVariants as ends
use Rattle.cfn_proof.specs.declared.tree.Node.{Node}
use Rattle.cfn_proof.specs.Nodes.{node_at, IsLinked}
use Rattle.cfn_machine.specs.Pool.{Mark, Free, Out, PoolTree, Leaf, Shut, Fork, IsLeaf, leaves_with}
use Rattle.cfn_leaves.specs.declared.entry.Mark.{Mark as HeldMark}
use Rattle.cfn_leaves.specs.declared.entry.Mark.TheVariants as held
use Rattle.cfn_leaves.specs.declared.entry.Entry.{Entry}

-- What the table has of a leaf by its number; nothing where the leaf is closed, or no leaf yet.
abbrev pub entry_at : List (Option Entry) → ℕ → Option Entry
entry_at table n = slice_index_or table n None

-- A mark as the table holds it, and the mark that it is.
abbrev pub held_mark : Mark → HeldMark
held_mark Free = held.Free
held_mark (Out worker grant) = held.Out worker grant

abbrev pub mark_of : HeldMark → Mark
mark_of held.Free = Free
mark_of (held.Out worker grant) = Out worker grant

-- The entry of a leaf at a node.
abbrev pub entry : ℕ → Mark → ℕ → Entry
entry i mark low = record { node = record { number = i }; mark = held_mark mark; floor = low }

-- The nodes from the number i on, behind a history, are this tree, and the table has each of its open leaves with its
-- node, its mark, and the floor at the end of its path.
abbrev pub Stands : Network → List Node → List (Option Entry) → ℕ → List Event → PoolTree → Type 0
Stands P nodes table i history (Leaf n mark block) =
    (i < length nodes) × ((node_at nodes i).block ≡ block) × ((node_at nodes i).end ≡ ends.Free) × (entry_at table n ≡ Some (entry i mark (floor P (after block history))))
Stands P nodes table i history (Shut block) =
    (i < length nodes) × ((node_at nodes i).block ≡ block) × ((node_at nodes i).end ≡ ends.Shut)
Stands P nodes table i history (Fork block d first second) =
    (i < length nodes) × ((node_at nodes i).block ≡ block)
    × ((one two : NodeId)
    × ((node_at nodes i).end ≡ ends.Split d one two)
    × Stands P nodes table one.number (Took d ∷ after block history) first
    × Stands P nodes table two.number (Refused d ∷ after block history) second)

-- The number of the leaf that stands at a node, from a number on, and the mark that the table has of a number.
abbrev pub number_from : ℕ → ℕ → List (Option Entry) → ℕ
number_from base i [] = base
number_from base i (None ∷ table) = number_from (base + 1) i table
number_from base i (Some e ∷ table) = if e.node.number == i then base else number_from (base + 1) i table

abbrev pub mark_in : Option Entry → Mark
mark_in None = Free
mark_in (Some e) = mark_of e.mark

-- A node as a tree, over the trees of its children.
abbrev pub with_marks : List (Option Entry) → ℕ → List Step → End → (ℕ → PoolTree) → PoolTree
with_marks table i block ends.Free child = Leaf (number_from 0 i table) (mark_in (entry_at table (number_from 0 i table))) block
with_marks table i block ends.Shut child = Shut block
with_marks table i block (ends.Split d first second) child = Fork block d (child first.number) (child second.number)

-- The tree from a node on, so many nodes deep, and the whole tree: it is no deeper than it has nodes.
abbrev pub marked_at : List Node → List (Option Entry) → ℕ → ℕ → PoolTree
marked_at nodes table zero i = Shut []
marked_at nodes table (suc deep) i = with_marks table i (node_at nodes i).block (node_at nodes i).end (marked_at nodes table deep)

abbrev pub marked : List Node → List (Option Entry) → PoolTree
marked nodes table = marked_at nodes table (length nodes) 0

-- A leaf of the tree has this number.
abbrev pub HasLeaf : PoolTree → ℕ → Type 0
HasLeaf tree n = (mark : Mark) × ((path : List Event) × IsLeaf tree [] n mark path)

-- The nodes and the table are this tree: each of its leaves has its entry, each entry is that of a leaf, and each leaf has
-- a number of its own.
pub record Are (P : Network) (nodes : List Node) (table : List (Option Entry)) (tree : PoolTree) : Type 0 where
  pub linked : IsLinked nodes
  pub stands : Stands P nodes table 0 [] tree
  pub there : (n : ℕ) (e : Entry) → entry_at table n ≡ Some e → HasLeaf tree n
  pub different : (n : ℕ) → leaves_with n tree ≤ 1

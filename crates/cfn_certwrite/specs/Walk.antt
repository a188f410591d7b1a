-- The nodes of a tree in the order of their lines, and the lines of each.
use Rattle.std.specs.Prelude.{ℕ, zero, suc, ◌-◌, List, [], ◌∷◌, ◌++◌, length, map, flat_map, Option, Some, None, ◌==◌, if◌then◌else◌, codes}
use Rattle.cfn_model.specs.Text.{step_words, decision_words}
use Rattle.cfn_proof.specs.declared.tree.NodeId.{NodeId}
use Rattle.cfn_proof.specs.declared.tree.End.{End}
use Rattle.cfn_proof.specs.declared.tree.End.TheVariants.{Free, Shut, Split}
use Rattle.cfn_proof.specs.declared.tree.Node.{Node}
use Rattle.cfn_proof.specs.Nodes.{node_at}

-- The words of a node's last line, and all of its lines.
abbrev pub end_words : End → List (List ℕ)
end_words Free = codes "open" ∷ []
end_words Shut = codes "closed" ∷ []
end_words (Split d first second) = decision_words d

abbrev pub node_lines : Node → List (List (List ℕ))
node_lines node = map step_words node.block ++ end_words node.end ∷ []

-- The second child of a split whose first child has the number.
abbrev pub second_after : End → ℕ → Option NodeId
second_after Free i = None
second_after Shut i = None
second_after (Split d first second) i = if first.number == i then Some second else None

-- A node's number before those of the nodes below it, over the orders of its children.
abbrev pub with_own : ℕ → End → (ℕ → List ℕ) → List ℕ
with_own i Free below = i ∷ []
with_own i Shut below = i ∷ []
with_own i (Split d first second) below = i ∷ (below first.number ++ below second.number)

-- The numbers of the nodes of the tree that begins at a node, in the order of their lines, down to a depth.
abbrev pub order_within : List Node → ℕ → ℕ → List ℕ
order_within nodes zero i = []
order_within nodes (suc depth) i = with_own i (node_at nodes i).end (order_within nodes depth)

-- All of them: the tree is no deeper than there are nodes from that one on.
unfoldable pub order_at : List Node → ℕ → List ℕ
order_at nodes i = order_within nodes (length nodes - i) i

-- The nodes of a second child's tree, if there is one, before others.
abbrev pub sibling_order : List Node → Option NodeId → List ℕ → List ℕ
sibling_order nodes None rest = rest
sibling_order nodes (Some second) rest = order_at nodes second.number ++ rest

-- The nodes behind the tree of a node with that parent, where above says what stands behind a parent's tree.
abbrev pub order_above : List Node → ℕ → Option NodeId → (ℕ → List ℕ) → List ℕ
order_above nodes i None above = []
order_above nodes i (Some parent) above = sibling_order nodes (second_after (node_at nodes parent.number).end i) (above parent.number)

-- The nodes behind the tree of a node that stands at most so deep.
abbrev pub behind_within : List Node → ℕ → ℕ → List ℕ
behind_within nodes zero i = []
behind_within nodes (suc depth) i = order_above nodes i (node_at nodes i).parent (behind_within nodes depth)

-- The nodes behind the tree of a node, whose number is no less than its depth.
unfoldable pub order_behind : List Node → ℕ → List ℕ
order_behind nodes i = behind_within nodes i i

-- The nodes from a node to the end of the whole tree, and those that are left before that node, or at the end.
abbrev pub order_from : List Node → ℕ → List ℕ
order_from nodes i = order_at nodes i ++ order_behind nodes i

abbrev pub order_left : List Node → Option NodeId → List ℕ
order_left nodes None = []
order_left nodes (Some next) = order_from nodes next.number

-- The lines of nodes, one node behind the other.
abbrev pub lines_in : List Node → List ℕ → List (List (List ℕ))
lines_in nodes order = flat_map (λ i. node_lines (node_at nodes i)) order

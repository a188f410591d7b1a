-- The text of a tree, node by node.
use Rattle.std.proofs.Common.{◌≡◌, ℕ, List, [], ◌∷◌, ◌++◌, map, Option, Some, sym, ap, ◌∙◌, append_assoc}
use Rattle.std.proofs.lemmas.List.{append-nil}
use Rattle.cfn_model.specs.Text.{line, text, step_words}
use Rattle.cfn_line.proofs.CallerLemmas.{text-append}
use Rattle.cfn_proof.specs.declared.tree.NodeId.{NodeId}
use Rattle.cfn_proof.specs.declared.tree.Node.{Node}
use Rattle.cfn_proof.specs.Nodes.{node_at}
use Rattle.cfn_certwrite.specs.Walk.{end_words, node_lines, lines_in, order_from, order_left}
use Rattle.cfn_certwrite.proofs.CallerLemmas.{text_left}

-- the text of a node behind what waits: the lines of its steps, and that of its end
pub node_parts : (waiting : List ℕ) (node : Node) → waiting ++ text (node_lines node) ≡ (waiting ++ text (map step_words node.block)) ++ line (end_words node.end)
node_parts waiting node =
    let steps = map step_words node.block in
    let last = end_words node.end in
    ap (λ t. waiting ++ t) (text-append steps (last ∷ []) ∙ ap (λ t. text steps ++ t) (append-nil (line last)))
    ∙ sym (append_assoc waiting (text steps) (line last))

-- the text from a node behind what waits
pub waiting_left : (waiting : List ℕ) (nodes : List Node) (next : Option NodeId) (id : NodeId) (rest : List ℕ) → next ≡ Some id → order_from nodes id.number ≡ id.number ∷ rest → waiting ++ text (lines_in nodes (order_left nodes next)) ≡ (waiting ++ text (node_lines (node_at nodes id.number))) ++ text (lines_in nodes rest)
waiting_left waiting nodes next id rest is parts =
    ap (λ t. waiting ++ t) (text_left nodes next id rest is parts)
    ∙ sym (append_assoc waiting (text (node_lines (node_at nodes id.number))) (text (lines_in nodes rest)))

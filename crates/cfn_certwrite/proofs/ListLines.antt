-- The text of a list in parts.
use Rattle.std.proofs.Common.{◌≡◌, ℕ, ◌+◌, ◌<◌, List, [], ◌∷◌, ◌++◌, length, map, Option, Some, None, get_or, drop, refl, sym, ap, ◌∙◌, append_assoc}
use Rattle.std.specs.Prelude.{codes, decimal}
use Rattle.std.proofs.lemmas.List.{append-nil}
use Rattle.std.proofs.lemmas.List.Concat.{flat_map-append}
use Rattle.cfn_model.specs.declared.step.Step.{Step}
use Rattle.cfn_model.specs.Text.{line, step_words, text}
use Rattle.cfn_fault.specs.Nodes.{Makes}
use Rattle.cfn_fault.specs.Lines as lines
use Rattle.cfn_line.proofs.CallerLemmas.{text-append, text-drop}
use Rattle.cfn_proof.specs.declared.tree.NodeId.{NodeId}
use Rattle.cfn_proof.specs.declared.tree.End.{End}
use Rattle.cfn_proof.specs.declared.tree.End.TheVariants.{Free, Shut, Split}
use Rattle.cfn_proof.specs.declared.tree.Node.{Node}
use Rattle.cfn_proof.specs.Nodes.{node_at, IsLinked}
use Rattle.cfn_best.specs.List.{ListCertificate}
use Rattle.cfn_best.specs.Lines.{ListLine, Says, bytes_of, text_of, lines_of_tree, line_of_solution}
use Rattle.cfn_certwrite.specs.Walk.{order_from, order_left}
use Rattle.cfn_certwrite.proofs.CallerLemmas.{from_root, in_order}
use Rattle.cfn_ranking.specs.declared.list.Listed.{Listed}
use Rattle.cfn_ranking.specs.declared.list.BestCertificate.{BestCertificate}
use Rattle.cfn_ranking.specs.declared.word.ListWord.{ListWord}
use Rattle.cfn_ranking.specs.Trees.{leaf_of, with_listed, number_at, listed_at, listed_of}
use Rattle.cfn_ranking.specs.Certificates.{solution_of, solutions_of, list_certificate_of, spelling}
use Rattle.cfn_ranking.proofs.CallerLemmas.{length-solutions_of, listed_at_is}
use Rattle.cfn_certwrite.specs.ListLines.{head_lines, listed_words, leaf_line, last_line, node_lines, lines_in}
use Rattle.cfn_certwrite.specs.ListTexts.{cost_words, end_lines, list_report}

texts_append : (first rest : List ListLine) → text_of (first ++ rest) ≡ text_of first ++ text_of rest
texts_append first rest = flat_map-append bytes_of first rest

texts_push : (first : List ListLine) (last : ListLine) → text_of (first ++ last ∷ []) ≡ text_of first ++ bytes_of last
texts_push first last = texts_append first (last ∷ []) ∙ ap (λ t. text_of first ++ t) (append-nil (bytes_of last))

-- the lines of steps, and of listed assignments, by their words
steps_text : (block : List Step) → text_of (map (λ step. Says (lines.Node (Makes step))) block) ≡ text (map step_words block)
steps_text [] = refl
steps_text (step ∷ block) = ap (λ t. bytes_of (Says (lines.Node (Makes step))) ++ t) (steps_text block)

list_text : (list : List Listed) → text_of (map line_of_solution (solutions_of list)) ≡ text (map listed_words list)
list_text [] = refl
list_text (l ∷ list) = ap (λ t. bytes_of (line_of_solution (solution_of l)) ++ t) (list_text list)

pub node_text : (node : Node) (number : Option ℕ) → text_of (node_lines node number) ≡ text (map step_words node.block) ++ bytes_of (last_line node.end number)
node_text node number = texts_push (map (λ step. Says (lines.Node (Makes step))) node.block) (last_line node.end number) ∙ ap (λ t. t ++ bytes_of (last_line node.end number)) (steps_text node.block)

-- the parts of a list's text
pub spelling_parts : (c : ListCertificate) (list : List Listed) → c.list ≡ solutions_of list → spelling c ≡ text_of (head_lines c) ++ (text (map listed_words list) ++ (codes "tree\n" ++ (text_of (lines_of_tree c.tree) ++ codes "end\n")))
spelling_parts c list is =
    texts_append (head_lines c) (map line_of_solution c.list ++ Says lines.Root ∷ (lines_of_tree c.tree ++ Says lines.End ∷ []))
    ∙ ap (λ t. text_of (head_lines c) ++ t)
    (texts_append (map line_of_solution c.list) (Says lines.Root ∷ (lines_of_tree c.tree ++ Says lines.End ∷ []))
    ∙ ap (λ t. t ++ text_of (Says lines.Root ∷ (lines_of_tree c.tree ++ Says lines.End ∷ []))) (ap (λ s. text_of (map line_of_solution s)) is ∙ list_text list)
    ∙ ap (λ t. text (map listed_words list) ++ (codes "tree\n" ++ t)) (texts_push (lines_of_tree c.tree) (Says lines.End)))

-- the lines of a leaf's tree, and of a split's
leaf_lines : (node : Node) (number : Option ℕ) → lines_of_tree (leaf_of node.block number) ≡ map (λ step. Says (lines.Node (Makes step))) node.block ++ leaf_line number ∷ []
leaf_lines node None = refl
leaf_lines node (Some j) = refl

tree_at_end : (nodes : List Node) (numbers : List (Option ℕ)) (i : ℕ) (e : End) → IsLinked nodes → i < length nodes → (node_at nodes i).end ≡ e → lines_of_tree (listed_at nodes numbers i) ≡ lines_of_tree (with_listed (node_at nodes i).block e (number_at numbers i) (listed_at nodes numbers))
tree_at_end nodes numbers i e linked there is =
    ap lines_of_tree (listed_at_is nodes numbers i linked there) ∙ ap (λ end. lines_of_tree (with_listed (node_at nodes i).block end (number_at numbers i) (listed_at nodes numbers))) is

abbrev own_lines : List Node → List (Option ℕ) → ℕ → End → List ListLine
own_lines nodes numbers i e = map (λ step. Says (lines.Node (Makes step))) (node_at nodes i).block ++ last_line e (number_at numbers i) ∷ []

-- the lines of a whole tree are those of its nodes, in their order
pub tree_in_order : (nodes : List Node) (numbers : List (Option ℕ)) → IsLinked nodes → lines_of_tree (listed_of nodes numbers) ≡ lines_in nodes numbers (order_from nodes 0)
tree_in_order nodes numbers linked =
    in_order nodes (λ i. lines_of_tree (listed_at nodes numbers i)) (λ i. node_lines (node_at nodes i) (number_at numbers i)) linked
    (λ i there is. tree_at_end nodes numbers i Free linked there is ∙ leaf_lines (node_at nodes i) (number_at numbers i) ∙ ap (own_lines nodes numbers i) (sym is))
    (λ i there is. tree_at_end nodes numbers i Shut linked there is ∙ ap (own_lines nodes numbers i) (sym is))
    (λ i d first second there is.
    tree_at_end nodes numbers i (Split d first second) linked there is
    ∙ sym (append_assoc (map (λ step. Says (lines.Node (Makes step))) (node_at nodes i).block) (last_line (Split d first second) (number_at numbers i) ∷ []) (lines_of_tree (listed_at nodes numbers first.number) ++ lines_of_tree (listed_at nodes numbers second.number)))
    ∙ ap (λ e. own_lines nodes numbers i e ++ (lines_of_tree (listed_at nodes numbers first.number) ++ lines_of_tree (listed_at nodes numbers second.number))) (sym is))
    0 linked.some
    ∙ ap (lines_in nodes numbers) (sym (from_root nodes linked))

-- the text from a node
pub text_left : (nodes : List Node) (numbers : List (Option ℕ)) (next : Option NodeId) (id : NodeId) (rest : List ℕ) → next ≡ Some id → order_from nodes id.number ≡ id.number ∷ rest → text_of (lines_in nodes numbers (order_left nodes next)) ≡ text_of (node_lines (node_at nodes id.number) (number_at numbers id.number)) ++ text_of (lines_in nodes numbers rest)
text_left nodes numbers next id rest is parts =
    ap (λ n. text_of (lines_in nodes numbers (order_left nodes n))) is
    ∙ ap (λ order. text_of (lines_in nodes numbers order)) parts
    ∙ texts_append (node_lines (node_at nodes id.number) (number_at numbers id.number)) (lines_in nodes numbers rest)

-- how many assignments are listed
pub best_line : (list : List Listed) → line (codes "best" ∷ decimal (length (solutions_of list)) ∷ []) ≡ line (codes "best" ∷ decimal (length list) ∷ [])
best_line list = ap (λ n. line (codes "best" ∷ decimal n ∷ [])) (length-solutions_of list)

-- the next line of a list
pub text_item : {X : Type 0} (f : X → List (List ℕ)) (xs : List X) (i : ℕ) (item : X) → item ≡ get_or xs i item → i < length xs → text (map f (drop i xs)) ≡ line (f item) ++ text (map f (drop (i + 1) xs))
text_item f xs i item is there = text-drop f xs i item there ∙ ap (λ x. line (f x) ++ text (map f (drop (i + 1) xs))) (sym is)

-- the parts of a report
costs_text : (list : List Listed) → text (map cost_words (solutions_of list)) ≡ text (map (λ l. cost_words (solution_of l)) list)
costs_text [] = refl
costs_text (l ∷ list) = ap (λ t. line (cost_words (solution_of l)) ++ t) (costs_text list)

pub report_parts : (c : BestCertificate) (word : ListWord) → list_report (list_certificate_of c) word ≡ line (codes "count" ∷ decimal (length c.list.items) ∷ []) ++ (text (map (λ l. cost_words (solution_of l)) c.list.items) ++ text (end_lines c.lower word))
report_parts c word =
    ap (λ n. line (codes "count" ∷ decimal n ∷ []) ++ text (map cost_words (solutions_of c.list.items) ++ end_lines c.lower word)) (length-solutions_of c.list.items)
    ∙ ap (λ t. line (codes "count" ∷ decimal (length c.list.items) ∷ []) ++ t) (text-append (map cost_words (solutions_of c.list.items)) (end_lines c.lower word) ∙ ap (λ t. t ++ text (end_lines c.lower word)) (costs_text c.list.items))

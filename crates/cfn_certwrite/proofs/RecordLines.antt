-- The text of a record in parts.
use Rattle.std.proofs.Common.{◌≡◌, ℕ, ◌+◌, ◌<◌, List, [], ◌∷◌, ◌++◌, length, map, Option, Some, None, get_or, drop, refl, sym, ap, ap₂, ◌∙◌}
use Rattle.std.specs.Prelude.{codes}
use Rattle.std.proofs.lemmas.List.{drop_more, map-append}
use Rattle.std.proofs.lemmas.List.Concat.{flat_map-append}
use Rattle.cfn_model.specs.declared.step.Step.{Step}
use Rattle.cfn_model.specs.Tree.{Tree, Open, Closed, Split}
use Rattle.cfn_model.specs.Certificate.{Solution}
use Rattle.cfn_model.specs.Text.{text, step_words, decision_words, tree_lines, best_lines}
use Rattle.cfn_fault.specs.Nodes.{Makes, LeavesOpen, Closes, Splits}
use Rattle.cfn_fault.specs.Lines as lines
use Rattle.cfn_fault.specs.Lines.{Line, Node}
use Rattle.cfn_proof.specs.declared.certificate.Certificate.{Certificate}
use Rattle.cfn_proof.specs.Certificates.{solution_of}
use Rattle.cfn_record.specs.Entries.{Gave}
use Rattle.cfn_record.specs.Lines.{RecordLine, Give, Says, bytes_of, text_of, said, lines_of_tree, lines_of_entry, lines_of_entries, lines_of_best}
use Rattle.cfn_record.specs.declared.happened.Happened.{Happened}
use Rattle.cfn_record.specs.Histories.{HistoryValue, entry_of, entries_of}
use Rattle.cfn_certwrite.specs.Records.{recorded, spelling, head_lines}

texts_append : (first rest : List RecordLine) → text_of (first ++ rest) ≡ text_of first ++ text_of rest
texts_append first rest = flat_map-append bytes_of first rest

-- lines that certificates have too, by their words
said_text : (ls : List Line) → text_of (said ls) ≡ text (map lines.words_of ls)
said_text [] = refl
said_text (l ∷ ls) = ap (λ t. lines.bytes_of l ++ t) (said_text ls)

block_words : (block : List Step) → map lines.words_of (map (λ step. Node (Makes step)) block) ≡ map step_words block
block_words [] = refl
block_words (step ∷ block) = ap (λ r. step_words step ∷ r) (block_words block)

before_end : (block : List Step) (rest : List Line) → map lines.words_of (map (λ step. Node (Makes step)) block ++ rest) ≡ map step_words block ++ map lines.words_of rest
before_end block rest = map-append lines.words_of (map (λ step. Node (Makes step)) block) rest ∙ ap (λ x. x ++ map lines.words_of rest) (block_words block)

tree_words : (tree : Tree) → map lines.words_of (lines.lines_of_tree tree) ≡ tree_lines tree
tree_words (Open block) = before_end block (Node LeavesOpen ∷ [])
tree_words (Closed block) = before_end block (Node Closes ∷ [])
tree_words (Split block d first second) =
    before_end block (Node (Splits d) ∷ (lines.lines_of_tree first ++ lines.lines_of_tree second))
    ∙ ap (λ r. map step_words block ++ decision_words d ∷ r)
    (map-append lines.words_of (lines.lines_of_tree first) (lines.lines_of_tree second) ∙ ap₂ (λ a b. a ++ b) (tree_words first) (tree_words second))

tree_text : (tree : Tree) → text_of (lines_of_tree tree) ≡ text (tree_lines tree)
tree_text tree = said_text (lines.lines_of_tree tree) ∙ ap text (tree_words tree)

-- the lines of a piece
pub piece_text : (worker leaf grant threshold seen : ℕ) (tree : Tree) → text_of (lines_of_entry (Gave worker leaf grant threshold seen tree)) ≡ bytes_of (Give worker leaf grant threshold seen) ++ text (tree_lines tree)
piece_text worker leaf grant threshold seen tree = ap (λ t. bytes_of (Give worker leaf grant threshold seen) ++ t) (tree_text tree)

best_text : (best : Option Solution) → text_of (lines_of_best best) ≡ text (best_lines best)
best_text None = refl
best_text (Some best) = refl

-- the parts of a record's text
pub spelling_parts : (h : HistoryValue) (c : Certificate) → spelling (recorded h c) ≡ text_of (head_lines h.budget c) ++ (text_of (lines_of_entries (entries_of h)) ++ (text (best_lines (solution_of c.best)) ++ codes "end\n"))
spelling_parts h c =
    let best = solution_of c.best in
    texts_append (head_lines h.budget c) (lines_of_entries (entries_of h) ++ (lines_of_best best ++ Says lines.End ∷ []))
    ∙ ap (λ t. text_of (head_lines h.budget c) ++ t)
    (texts_append (lines_of_entries (entries_of h)) (lines_of_best best ++ Says lines.End ∷ [])
    ∙ ap (λ t. text_of (lines_of_entries (entries_of h)) ++ t) (texts_append (lines_of_best best) (Says lines.End ∷ []) ∙ ap (λ t. t ++ codes "end\n") (best_text best)))

-- the next entry of a history
pub entry_left : (happened : List Happened) (i : ℕ) (item : Happened) → item ≡ get_or happened i item → i < length happened → text_of (lines_of_entries (map entry_of (drop i happened))) ≡ text_of (lines_of_entry (entry_of item)) ++ text_of (lines_of_entries (map entry_of (drop (i + 1) happened)))
entry_left happened i item is there =
    ap (λ xs. text_of (lines_of_entries (map entry_of xs))) (drop_more happened i item there)
    ∙ texts_append (lines_of_entry (entry_of (get_or happened i item))) (lines_of_entries (map entry_of (drop (i + 1) happened)))
    ∙ ap (λ x. text_of (lines_of_entry (entry_of x)) ++ text_of (lines_of_entries (map entry_of (drop (i + 1) happened)))) (sym is)

-- The text of a certificate in parts.
use Rattle.std.proofs.Common.{◌≡◌, List, ◌∷◌, [], ◌++◌, ℕ, ap, ◌∙◌}
use Rattle.std.specs.Prelude.{codes}
use Rattle.std.proofs.lemmas.List.{append-nil}
use Rattle.cfn_model.specs.Certificate.{Certificate}
use Rattle.cfn_model.specs.Text.{line, text, head_lines, tree_lines, spelling}
use Rattle.cfn_line.proofs.CallerLemmas.{text-append}

pub text-push : (first : List (List (List ℕ))) (last : List (List ℕ)) → text (first ++ last ∷ []) ≡ text first ++ line last
text-push first last = text-append first (last ∷ []) ∙ ap (λ t. text first ++ t) (append-nil (line last))

-- the parts of a certificate's text
pub spelling_parts : (c : Certificate) → spelling c ≡ text (head_lines c) ++ (codes "tree\n" ++ (text (tree_lines c.tree) ++ codes "end\n"))
spelling_parts c =
    text-append (head_lines c) ((codes "tree" ∷ []) ∷ (tree_lines c.tree ++ (codes "end" ∷ []) ∷ []))
    ∙ ap (λ t. text (head_lines c) ++ (codes "tree\n" ++ t)) (text-push (tree_lines c.tree) (codes "end" ∷ []))

-- The text of a report in parts.
use Rattle.std.proofs.Common.{◌≡◌, ℕ, List, ◌++◌, map, ap, ◌∙◌, append_assoc}
use Rattle.cfn_model.specs.declared.report.Row.{Row}
use Rattle.cfn_model.specs.declared.report.ResultWord.{ResultWord}
use Rattle.cfn_model.specs.Certificate.{Certificate}
use Rattle.cfn_model.specs.Text.{text, row_words, report}
use Rattle.cfn_line.proofs.CallerLemmas.{text-append}
use Rattle.cfn_report.specs.Texts.{size_lines, bound_lines, end_lines}

-- the parts of a report's text
pub report_parts : (workers : ℕ) (c : Certificate) (rows : List Row) (nodes : ℕ) (word : ResultWord) → report workers c rows nodes word ≡ text (size_lines c.variables c.functions workers) ++ (text (map row_words rows) ++ (text (bound_lines c.lower c.best) ++ text (end_lines nodes word)))
report_parts workers c rows nodes word =
    text-append (size_lines c.variables c.functions workers ++ map row_words rows) (bound_lines c.lower c.best ++ end_lines nodes word)
    ∙ ap (λ t. t ++ text (bound_lines c.lower c.best ++ end_lines nodes word)) (text-append (size_lines c.variables c.functions workers) (map row_words rows))
    ∙ append_assoc (text (size_lines c.variables c.functions workers)) (text (map row_words rows)) (text (bound_lines c.lower c.best ++ end_lines nodes word))
    ∙ ap (λ t. text (size_lines c.variables c.functions workers) ++ (text (map row_words rows) ++ t)) (text-append (bound_lines c.lower c.best) (end_lines nodes word))

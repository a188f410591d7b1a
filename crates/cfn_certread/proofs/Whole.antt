-- All lines of a text, read as a certificate.
use Rattle.std.proofs.Common.{◌≡◌, ℕ, List, [], ◌∷◌, ◌++◌, sym, ap, ◌∙◌, subst, append_assoc}
use Rattle.std.specs.Prelude.{Option, Result, Ok, Err}
use Rattle.cfn_model.specs.declared.version.Version as versions
use Rattle.cfn_model.specs.Tree.{Tree}
use Rattle.cfn_model.specs.Certificate.{Certificate}
use Rattle.cfn_model.specs.Text.{Spells}
use Rattle.cfn_fault.specs.Lines.{Root, End, lines_of, lines_of_tree, lines_of_best}
use Rattle.cfn_fault.proofs.CallerLemmas.{one_certificate, one_text_fault, no_text_fault_where_spelled}
use Rattle.cfn_fault.proofs.CallerLemmas.{same_certificate, whole_spells}
use Rattle.cfn_certtext.specs.declared.event.TextFault as faults
use Rattle.cfn_certread.specs.declared.certificate.Best.{Best}
use Rattle.cfn_certread.specs.declared.certificate.Head.{Head}
use Rattle.cfn_certread.specs.declared.certificate.ReadCertificate.{ReadCertificate}
use Rattle.cfn_certread.specs.Reading.{solution_of, IsRead, IsAnswer, IsExact, IsTreeRead, head_lines, best_lines}

-- the certificate that the lines are
told_by : versions.Version → Head → Option Best → Tree → Certificate
told_by version head best tree = record { version = version; variables = head.variables; functions = head.functions; upper = head.upper; best = solution_of best; lower = head.lower; tree = tree }

lines_told : (version : versions.Version) (head : Head) (best : Option Best) (tree : Tree) → (head_lines version head ++ best_lines best) ++ (lines_of_tree tree ++ End ∷ []) ≡ lines_of (told_by version head best tree)
unfolding told_by
lines_told version head best tree =
    append_assoc (head_lines version head) (best_lines best) (lines_of_tree tree ++ End ∷ [])
    ∙ ap (λ ls. head_lines version head ++ ls) (append_assoc (lines_of_best (solution_of best)) (Root ∷ []) (lines_of_tree tree ++ End ∷ []))

pub whole_read : (text : List ℕ) (version : versions.Version) (head : Head) (best : Option Best) (read : ReadCertificate) → read.variables ≡ head.variables → read.functions ≡ head.functions → read.upper ≡ head.upper → read.best ≡ best → read.lower ≡ head.lower
    → IsTreeRead text (head_lines version head ++ best_lines best) read.tree → (c : Certificate) × Spells c text × IsRead c read
unfolding told_by
whole_read text version head best read variables functions upper best_is lower it =
    let whole = whole_spells text ((head_lines version head ++ best_lines best) ++ (lines_of_tree it.tree ++ End ∷ [])) it.fronts in
    let same : whole.0 ≡ told_by version head best it.tree = same_certificate whole.0 (told_by version head best it.tree) (whole.2 ∙ lines_told version head best it.tree) in
    let read_so : IsRead (told_by version head best it.tree) read = record { variables = variables; functions = functions; upper = upper; best = ap solution_of best_is; lower = lower; tree = it.is } in
    (whole.0, whole.1, subst (λ (c : Certificate). IsRead c read) (sym same) read_so)

-- the answer is the only one
pub exact : (text : List ℕ) (answer : Result ReadCertificate faults.TextFault) → IsAnswer text answer → IsExact text answer
exact text (Ok read) is = record {
  spelled = λ c spells. subst (λ (d : Certificate). IsRead d read) (one_certificate text is.0 c is.1 spells) is.2;
  fault = λ line fault. no_text_fault_where_spelled text is.0 line is.1 fault;
}
exact text (Err fault) is = record {
  spelled = λ c spells. no_text_fault_where_spelled text c fault.line spells is;
  fault = λ line other. one_text_fault text fault.line line is other;
}

use Rattle.std.proofs.Common.{◌≡◌, List, Some, None, refl, codes}
use Rattle.clap.specs.Words.{Row, Text, first_of}
use Rattle.cfn_cli.specs.Arguments.{flag_of, format_of}
use Rattle.cfn_cli.specs.Request.CheckingBest.{check_best_of}
use Rattle.cfn_cli.proofs.Asking.{nothing_asked}
use Rattle.cfn_cli.proofs.commands.checkbest.read.Goals as goal

check_best_made : (rows : List Row) (file certificate : Text) → first_of (codes "file") rows ≡ Some file
    → first_of (codes "certificate") rows ≡ Some certificate → check_best_of rows ≡ Some (record { file = file; certificate = certificate; format = format_of rows; complete = flag_of (codes "complete") rows })
unfolding check_best_of
check_best_made rows file certificate e1 e2 = rw (e1, e2) refl

check_best_without_file : (rows : List Row) → first_of (codes "file") rows ≡ None → check_best_of rows ≡ None
unfolding check_best_of
check_best_without_file rows e1 = rw e1 refl

check_best_without_certificate : (rows : List Row) (file : Text) → first_of (codes "file") rows ≡ Some file
    → first_of (codes "certificate") rows ≡ None → check_best_of rows ≡ None
unfolding check_best_of
check_best_without_certificate rows file e1 e2 = rw (e1, e2) refl

pub returns-in_err-file-clause-usage : goal.returns-in_err-file-clause-usage
returns-in_err-file-clause-usage c = nothing_asked _ _ (check_best_without_file _ c.in_err-file.ensures.missing)

pub returns-in_err-judged-clause-usage : goal.returns-in_err-judged-clause-usage
returns-in_err-judged-clause-usage c =
    nothing_asked _ _ (check_best_without_certificate _ _ c.in_ok-file.ensures.text c.in_err-judged.ensures.missing)

pub returns-clause-arguments : goal.returns-clause-arguments
returns-clause-arguments c =
    rw (c.in_ok-from_str.ensures.ok, c.in_ok-from_str-2.ensures.ok, c.format.ensures, c.flag.ensures)
    (check_best_made _ _ _ c.in_ok-file.ensures.text c.in_ok-judged.ensures.text)

use Rattle.cfn_line.proofs.CallerLemmas.{then, stop, respell}
use Rattle.cfn_certwrite.proofs.ListLines.{report_parts}
use Rattle.cfn_certwrite.proofs.list_report.write_list_report.Goals as goal

pub returns-in_err-write_number : goal.returns-in_err-write_number
returns-in_err-write_number g c =
    respell _ (report_parts c.args.certificate.now c.args.word) (stop _ c.from_residual.ensures.0 _ (rw c.deref-list.ensures.value at c.in_err-write_number.ensures))

pub returns-in_err-say_list : goal.returns-in_err-say_list
returns-in_err-say_list g c =
    respell _ (report_parts c.args.certificate.now c.args.word) (then (rw c.deref-list.ensures.value at c.in_ok-write_number.ensures) (stop _ c.from_residual-in_err-say_list.ensures.0 _ (rw c.deref-list.ensures.value at c.in_err-say_list.ensures)))

pub returns : goal.returns
returns g c =
    respell _ (report_parts c.args.certificate.now c.args.word) (then (rw c.deref-list.ensures.value at c.in_ok-write_number.ensures) (then (rw c.deref-list.ensures.value at c.in_ok-say_list.ensures) c.say_end.ensures))

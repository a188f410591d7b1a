use Rattle.cfn_line.proofs.CallerLemmas.{then, stop, respell}
use Rattle.cfn_certwrite.proofs.RecordLines.{spelling_parts}
use Rattle.cfn_certwrite.proofs.whole.write_record.Goals as goal

pub returns-in_err-put_head-clause-text : goal.returns-in_err-put_head-clause-text
returns-in_err-put_head-clause-text g c =
    respell _ (spelling_parts c.args.history.now c.args.certificate.now) (stop _ c.from_residual.ensures.0 _ (rw c.budget.ensures at c.in_err-put_head.ensures))

pub returns-in_err-put_entries-clause-text : goal.returns-in_err-put_entries-clause-text
returns-in_err-put_entries-clause-text g c =
    respell _ (spelling_parts c.args.history.now c.args.certificate.now) (then (rw c.budget.ensures at c.in_ok-put_head.ensures) (stop _ c.from_residual-in_err-put_entries.ensures.0 _ (rw c.happened.ensures at c.in_err-put_entries.ensures)))

pub returns-in_err-put_best-clause-text : goal.returns-in_err-put_best-clause-text
returns-in_err-put_best-clause-text g c =
    respell _ (spelling_parts c.args.history.now c.args.certificate.now) (then (rw c.budget.ensures at c.in_ok-put_head.ensures) (then (rw c.happened.ensures at c.in_ok-put_entries.ensures) (stop _ c.from_residual-in_err-put_best.ensures.0 _ c.in_err-put_best.ensures)))

pub returns-clause-text : goal.returns-clause-text
returns-clause-text g c =
    respell _ (spelling_parts c.args.history.now c.args.certificate.now) (then (rw c.budget.ensures at c.in_ok-put_head.ensures) (then (rw c.happened.ensures at c.in_ok-put_entries.ensures) (then c.in_ok-put_best.ensures c.write_line.ensures)))

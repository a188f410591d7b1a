use Rattle.cfn_proof.specs.Certificates.{certificate_of}
use Rattle.cfn_line.proofs.CallerLemmas.{then, stop, respell}
use Rattle.cfn_report.proofs.Lines.{report_parts}
use Rattle.cfn_report.proofs.report.write.Goals as goal

pub returns-in_err-say_sizes : goal.returns-in_err-say_sizes
returns-in_err-say_sizes g c = let r = c.args.report.now in
    respell _ (report_parts r.workers (certificate_of r.certificate.now) r.rows.now r.nodes r.word) (stop _ c.from_residual.ensures.0 _ c.in_err-say_sizes.ensures)

pub returns-in_err-say_rows : goal.returns-in_err-say_rows
returns-in_err-say_rows g c = let r = c.args.report.now in
    respell _ (report_parts r.workers (certificate_of r.certificate.now) r.rows.now r.nodes r.word)
    (then c.in_ok-say_sizes.ensures (stop _ c.from_residual-in_err-say_rows.ensures.0 _ c.in_err-say_rows.ensures))

pub returns-in_err-say_bounds : goal.returns-in_err-say_bounds
returns-in_err-say_bounds g c = let r = c.args.report.now in
    respell _ (report_parts r.workers (certificate_of r.certificate.now) r.rows.now r.nodes r.word)
    (then c.in_ok-say_sizes.ensures (then c.in_ok-say_rows.ensures (stop _ c.from_residual-in_err-say_bounds.ensures.0 _ c.in_err-say_bounds.ensures)))

pub returns : goal.returns
returns g c = let r = c.args.report.now in
    respell _ (report_parts r.workers (certificate_of r.certificate.now) r.rows.now r.nodes r.word)
    (then c.in_ok-say_sizes.ensures (then c.in_ok-say_rows.ensures (then c.in_ok-say_bounds.ensures c.say_end.ensures)))

use Rattle.std.proofs.Common.{sym, ◌∙◌}
use Rattle.cfn_app.proofs.Ends.{outputs_ended, outputs_unwritten}
use Rattle.cfn_app.proofs.output.put_out.Goals as goal

pub returns-then-is_err : goal.returns-then-is_err
returns-then-is_err g c = outputs_unwritten _ _ _ _ _ _ c.save.result c.write_write_fault.result _ (sym c.is_err.ensures.value ∙ c.if-is_err.true) c.save.ensures.not_written c.write_write_fault.ensures c.ending.ensures

pub returns : goal.returns
returns g c = outputs_ended _ _ _ _ _ _ c.save.result _ (sym c.is_err.ensures.value ∙ c.if-is_err.false) c.save.ensures.wrote c.say_report.ensures.files c.say_report.ensures.ends

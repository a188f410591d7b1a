use Rattle.std.proofs.Common.{sym, ◌∙◌}
use Rattle.cfn_app.proofs.Ends.{outputs_unwritten, outputs_written}
use Rattle.cfn_app.proofs.commands.replaying.put_again.Goals as goal

pub returns-then-is_err : goal.returns-then-is_err
returns-then-is_err g c = outputs_unwritten _ _ _ _ _ _ c.save_text.result c.write_write_fault.result _ (sym c.is_err.ensures.value ∙ c.if-is_err.true) c.save_text.ensures.not_written c.write_write_fault.ensures c.ending.ensures

pub returns : goal.returns
returns g c = outputs_written _ _ _ _ _ _ c.save_text.result c.write_replayed.result _ (sym c.is_err.ensures.value ∙ c.if-is_err.false) c.save_text.ensures.wrote c.write_replayed.ensures c.ending-2.ensures

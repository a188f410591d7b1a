use Rattle.std.proofs.Common.{sym, ◌∙◌}
use Rattle.cfn_app.proofs.Ends.{not_written}
use Rattle.cfn_app.proofs.commands.recording.save_record.Goals as goal

pub returns-then-is_err-clause-not_written : goal.returns-then-is_err-clause-not_written
returns-then-is_err-clause-not_written g c = not_written _ _ _ _ c.write_record.result (sym c.is_err.ensures.value ∙ c.if-is_err.true) c.write_record.ensures.text c.discard_out.ensures.called

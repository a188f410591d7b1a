use Rattle.std.proofs.Common.{sym, ◌∙◌}
use Rattle.cfn_app.proofs.Recordings.{both_recorded, both_unwritten, wrote_idle}
use Rattle.cfn_app.proofs.commands.recording.put_both.Goals as goal

pub put_record-requires-clause-idle : goal.put_record-requires-clause-idle
put_record-requires-clause-idle g c = wrote_idle _ _ _ c.save.result (sym c.is_err.ensures.value ∙ c.if-is_err.false) c.save.ensures.wrote

pub returns-then-is_err : goal.returns-then-is_err
returns-then-is_err g c = both_unwritten _ _ _ _ _ _ _ _ _ c.save.result c.write_write_fault.result (sym c.is_err.ensures.value ∙ c.if-is_err.true) c.save.ensures.not_written c.write_write_fault.ensures c.ending.ensures

pub returns : goal.returns
returns g c = both_recorded _ _ _ _ _ _ _ _ _ c.save.result (sym c.is_err.ensures.value ∙ c.if-is_err.false) c.save.ensures.wrote c.put_record.ensures

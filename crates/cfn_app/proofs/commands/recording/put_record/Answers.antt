use Rattle.std.proofs.Common.{sym, ◌∙◌}
use Rattle.cfn_app.proofs.Ends.{outputs_ended, outputs_unwritten}
use Rattle.cfn_app.proofs.Recordings.{recorded_behind}
use Rattle.cfn_app.proofs.commands.recording.put_record.Goals as goal

pub returns-then-is_err-2 : goal.returns-then-is_err-2
returns-then-is_err-2 g c =
    recorded_behind c.args.name.now _ _ _ _ _ _ c.open_out.result _ (sym c.is_err.ensures.value ∙ c.if-is_err.false) c.open_out.ensures.called
    (outputs_unwritten _ _ _ _ _ _ c.save_record.result c.write_write_fault-then-is_err-2.result _ (sym c.is_err-2.ensures.value ∙ c.if-is_err-2.true) c.save_record.ensures.not_written c.write_write_fault-then-is_err-2.ensures c.ending-then-is_err-2.ensures)

pub returns : goal.returns
returns g c =
    recorded_behind c.args.name.now _ _ _ _ _ _ c.open_out.result _ (sym c.is_err.ensures.value ∙ c.if-is_err.false) c.open_out.ensures.called
    (outputs_ended _ _ _ _ _ _ c.save_record.result _ (sym c.is_err-2.ensures.value ∙ c.if-is_err-2.false) c.save_record.ensures.wrote c.say_report.ensures.files c.say_report.ensures.ends)

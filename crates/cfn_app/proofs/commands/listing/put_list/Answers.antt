use Rattle.std.proofs.Common.{sym, ◌∙◌}
use Rattle.cfn_app.proofs.Ends.{outputs_unwritten, outputs_written}
use Rattle.cfn_app.proofs.commands.listing.put_list.Goals as goal

pub returns-then-is_err : goal.returns-then-is_err
returns-then-is_err g c = outputs_unwritten _ _ _ _ _ _ c.save_list.result c.write_write_fault.result _ (sym c.is_err.ensures.value ∙ c.if-is_err.true) c.save_list.ensures.not_written c.write_write_fault.ensures c.ending.ensures

pub returns : goal.returns
returns g c =
    outputs_written _ _ _ _ _ _ c.save_list.result c.write_list_report.result _ (sym c.is_err.ensures.value ∙ c.if-is_err.false) c.save_list.ensures.wrote
    c.write_list_report.ensures (rw c.status-due.ensures at c.ending-2.ensures)

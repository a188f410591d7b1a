use Rattle.std.proofs.Common.{sym, ◌∙◌}
use Rattle.cfn_app.proofs.Ends.{outputs_unwritten, outputs_written}
use Rattle.cfn_app.proofs.commands.migrating.put_upgraded.Goals as goal

pub returns-then-is_err : goal.returns-then-is_err
returns-then-is_err g c = outputs_unwritten _ _ _ _ _ _ c.save_upgraded.result c.write_write_fault.result _ (sym c.is_err.ensures.value ∙ c.if-is_err.true) c.save_upgraded.ensures.not_written c.write_write_fault.ensures c.ending.ensures

pub returns : goal.returns
returns g c =
    outputs_written _ _ _ _ _ _ c.save_upgraded.result c.write_migrated.result _ (sym c.is_err.ensures.value ∙ c.if-is_err.false) c.save_upgraded.ensures.wrote
    c.write_migrated.ensures c.ending-2.ensures

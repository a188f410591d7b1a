use Rattle.std.proofs.Common.{sym, ◌∙◌}
use Rattle.cfn_app.proofs.Ends.{rewritten_behind}
use Rattle.cfn_app.proofs.commands.migrating.write_upgraded.Goals as goal

pub returns : goal.returns
returns g c =
    rewritten_behind _ c.args.out.now _ _ _ c.open_out.result c.put_upgraded.result (sym c.is_err.ensures.value ∙ c.if-is_err.false) c.open_out.ensures.called c.put_upgraded.ensures

use Rattle.std.proofs.Common.{sym, ◌∙◌}
use Rattle.cfn_app.proofs.Returning.{again_behind}
use Rattle.cfn_app.proofs.commands.replaying.write_again.Goals as goal

pub returns : goal.returns
returns g c =
    again_behind _ c.args.out.now _ _ _ c.open_out.result c.put_again.result (sym c.is_err.ensures.value ∙ c.if-is_err.false) c.open_out.ensures.called c.put_again.ensures

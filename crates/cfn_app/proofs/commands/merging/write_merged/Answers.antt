use Rattle.std.proofs.Common.{sym, ◌∙◌}
use Rattle.cfn_app.proofs.Merges.{written_behind}
use Rattle.cfn_app.proofs.commands.merging.write_merged.Goals as goal

pub returns : goal.returns
returns g c =
    written_behind _ c.args.out.now _ _ _ c.open_out.result c.put_merged.result (sym c.is_err.ensures.value ∙ c.if-is_err.false) c.open_out.ensures.called c.put_merged.ensures

use Rattle.std.proofs.Common.{sym, ◌∙◌}
use Rattle.cfn_cli.specs.Request.Listing.{spoken_k_best}
use Rattle.cfn_ranking.specs.Certificates.{list_certificate_of}
use Rattle.cfn_app.proofs.Lists.{listed_behind}
use Rattle.cfn_app.proofs.commands.listing.open_and_list.Goals as goal

pub returns-in-Ok : goal.returns-in-Ok
returns-in-Ok g c =
    listed_behind c.args.network.now (spoken_k_best c.args.ask.now) _ _ _ c.open_out.result c.put_list.result c.in-Ok.best.spent (list_certificate_of c.in-Ok.best.certificate) c.in-Ok.best.word
    (sym c.is_err.ensures.value ∙ c.if-is_err.false) (rw c.as_str.ensures.value at c.open_out.ensures.called)
    c.in-Ok.ensures c.put_list.ensures

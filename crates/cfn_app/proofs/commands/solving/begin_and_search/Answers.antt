use Rattle.std.proofs.Common.{subst}
use Rattle.cfn_cli.specs.Request.Solving.{spoken_solve}
use Rattle.cfn_app.specs.Runs.Solving.{Searches}
use Rattle.cfn_app.proofs.commands.solving.begin_and_search.Goals as goal

pub returns-in-Ok : goal.returns-in-Ok
returns-in-Ok g c =
    subst (λ start. Searches c.args.network.now start (spoken_solve c.args.ask.now) (g.D.Desk.outside c.args.desk.now) (g.D.Desk.outside c.open_and_search.new.desk) c.open_and_search.result) c.in-Ok.ensures.start c.open_and_search.ensures

use Rattle.cfn_cli.specs.Request.Trying.{spoken_trial}
use Rattle.cfn_app.proofs.Ends.{tried}
use Rattle.cfn_app.proofs.commands.trying.try_drawn.Goals as goal

pub returns-clause-ends : goal.returns-clause-ends
returns-clause-ends g c =
    tried (spoken_trial c.args.ask.now) c.in-Ok.network c.in-Ok-least_cost.least c.variables-variables.result c.functions-functions.result _ _ c.write_trial.result _
    c.in-Ok.ensures c.variables-variables.ensures c.functions-functions.ensures c.in-Ok-least_cost.ensures c.write_trial.ensures c.ending-2.ensures

use Rattle.cfn_cli.specs.Request.{request}
use Rattle.cfn_app.specs.Runs.{does}
use Rattle.cfn_app.proofs.program.end_of.Goals as goal

pub returns-in-Ok : goal.returns-in-Ok
returns-in-Ok g c = does (request c.in-Ok.command) c.in-Ok.ensures.command c.do_command.ensures

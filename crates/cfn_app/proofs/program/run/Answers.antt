use Rattle.cfn_app.proofs.Stating.{returns, statuses}
use Rattle.cfn_app.proofs.program.run.Goals as goal

pub returns-clause-statuses : goal.returns-clause-statuses
returns-clause-statuses g c = statuses _ _ _ _ c.end_of.ensures

pub returns-clause-again : goal.returns-clause-again
returns-clause-again g c = returns _ _ _ _ c.end_of.ensures

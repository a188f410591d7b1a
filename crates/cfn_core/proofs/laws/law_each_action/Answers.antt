use Rattle.cfn_core.proofs.Keeping.{opens, keeps}
use Rattle.cfn_core.proofs.laws.law_each_action.Goals as goal

pub returns-clause-opens : goal.returns-clause-opens
returns-clause-opens c = opens

pub returns-clause-keeps : goal.returns-clause-keeps
returns-clause-keeps c = keeps

use Rattle.cfn_core.proofs.Handing.{opens_numbered, keeps_numbered}
use Rattle.cfn_core.proofs.laws.law_numbered.Goals as goal

pub returns-clause-opens : goal.returns-clause-opens
returns-clause-opens c = opens_numbered

pub returns-clause-keeps : goal.returns-clause-keeps
returns-clause-keeps c = keeps_numbered

use Rattle.cfn_core.proofs.Handing.{opens_handed, keeps_handed}
use Rattle.cfn_core.proofs.laws.law_in_hand.Goals as goal

pub returns-clause-opens : goal.returns-clause-opens
returns-clause-opens c = opens_handed

pub returns-clause-keeps : goal.returns-clause-keeps
returns-clause-keeps c = keeps_handed

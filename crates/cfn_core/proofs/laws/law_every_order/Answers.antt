use Rattle.cfn_core.proofs.Always.{always_holds}
use Rattle.cfn_core.proofs.laws.law_every_order.Goals as goal

pub returns : goal.returns
returns c = always_holds

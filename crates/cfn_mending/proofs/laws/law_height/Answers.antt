use Rattle.cfn_mending.proofs.Joined.{bound_is}
use Rattle.cfn_mending.proofs.laws.law_height.Goals as goal

pub returns : goal.returns
returns c = bound_is

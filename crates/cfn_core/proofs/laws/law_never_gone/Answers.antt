use Rattle.cfn_core.proofs.Refusing.{never_gone}
use Rattle.cfn_core.proofs.laws.law_never_gone.Goals as goal

pub returns : goal.returns
returns c = never_gone

use Rattle.cfn_gen.proofs.Allowing.{allowed}
use Rattle.cfn_gen.proofs.trial.law_allowing.Goals as goal

pub returns : goal.returns
returns c = allowed

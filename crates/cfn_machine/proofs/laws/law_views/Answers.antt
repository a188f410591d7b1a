use Rattle.cfn_machine.proofs.Keeping.{joins}
use Rattle.cfn_machine.proofs.laws.law_views.Goals as goal

pub returns : goal.returns
returns c = joins

use Rattle.cfn_machine.proofs.Agreeing.{agreed}
use Rattle.cfn_machine.proofs.Covering.{covered}
use Rattle.cfn_machine.proofs.laws.law_covered.Goals as goal

pub returns-clause-agreed : goal.returns-clause-agreed
returns-clause-agreed c = agreed

pub returns-clause-covered : goal.returns-clause-covered
returns-clause-covered c = covered

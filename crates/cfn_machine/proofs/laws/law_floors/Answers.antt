use Rattle.cfn_machine.proofs.Covering.{rises, sweeps_all}
use Rattle.cfn_machine.proofs.laws.law_floors.Goals as goal

pub returns-clause-rises : goal.returns-clause-rises
returns-clause-rises c = rises

pub returns-clause-swept : goal.returns-clause-swept
returns-clause-swept c = sweeps_all

use Rattle.cfn_machine.proofs.Tracing.{takes_out}
use Rattle.cfn_machine.proofs.Outgoing.{stays_out, was_out}
use Rattle.cfn_machine.proofs.laws.law_leaves_out.Goals as goal

pub returns-clause-taken : goal.returns-clause-taken
returns-clause-taken c = takes_out

pub returns-clause-stays : goal.returns-clause-stays
returns-clause-stays c = stays_out

pub returns-clause-was : goal.returns-clause-was
returns-clause-was c = was_out

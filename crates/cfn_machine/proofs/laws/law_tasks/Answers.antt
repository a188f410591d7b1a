use Rattle.cfn_machine.proofs.Tracing.{hands_out}
use Rattle.cfn_machine.proofs.Answering.{takes_or_none, never_both, one_lack}
use Rattle.cfn_machine.proofs.laws.law_tasks.Goals as goal

pub returns-clause-tasks : goal.returns-clause-tasks
returns-clause-tasks c = hands_out

pub returns-clause-some : goal.returns-clause-some
returns-clause-some c = takes_or_none

pub returns-clause-either : goal.returns-clause-either
returns-clause-either c = never_both

pub returns-clause-one : goal.returns-clause-one
returns-clause-one c = one_lack

use Rattle.cfn_machine.proofs.Answering.{one_task, one_pool}
use Rattle.cfn_machine.proofs.laws.law_one_pool.Goals as goal

pub returns-clause-task : goal.returns-clause-task
returns-clause-task c = one_task

pub returns-clause-pool : goal.returns-clause-pool
returns-clause-pool c = one_pool

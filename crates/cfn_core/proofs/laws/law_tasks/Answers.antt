use Rattle.cfn_core.proofs.Tasks.{hands_out}
use Rattle.cfn_core.proofs.laws.law_tasks.Goals as goal

pub returns : goal.returns
returns c = hands_out

use Rattle.cfn_certread.proofs.NodeLines.{step_spelled}
use Rattle.cfn_certread.proofs.nodes.node.Goals as goal

pub step-requires-clause-spelled : goal.step-requires-clause-spelled
step-requires-clause-spelled c = step_spelled c.args.item c.in-Step.step c.in-Step.is c.requires.spelled

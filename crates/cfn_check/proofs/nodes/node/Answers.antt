use Rattle.std.proofs.lemmas.Result.{IfOk-weaker}
use Rattle.cfn_check.proofs.Lines.{step_taken, split_taken}
use Rattle.cfn_check.proofs.nodes.node.Goals as goal

pub returns-in-Step-clause-takes : goal.returns-in-Step-clause-takes
returns-in-Step-clause-takes c =
    IfOk-weaker c.step.result _ _ (λ fault judged it history paths at due. step_taken c.args.walk.now c.step.new.self c.args.item c.in-Step.step fault c.in-Step.is judged it history paths at due) c.step.ensures.steps

pub returns-in_ok-splits-in-Split-clause-takes : goal.returns-in_ok-splits-in-Split-clause-takes
returns-in_ok-splits-in-Split-clause-takes c =
    λ it history paths at due. split_taken c.args.walk.now c.split.new.self c.args.item c.in-Split.decision c.in_ok-splits-in-Split.splits c.fault_unless-in-Split.result c.in-Split.is c.fault_unless-in-Split.ensures c.in_ok-splits-in-Split.ensures.splits it history paths at due

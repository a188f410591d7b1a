use Rattle.std.proofs.Common.{arith}
use Rattle.cfn_vac.proofs.Lifts.{same_amount, greatest_more, factor_of}
use Rattle.cfn_vac.proofs.lifter.factor.Goals as goal

pub loop-step-preserved : goal.loop-step-preserved
loop-step-preserved c =
    greatest_more c.args.steps.now c.loop-step.step-index c.loop-step.greatest c.amount.result c.max-greatest.result c.loop-step.invariant
    (λ d. same_amount c.args.steps.now c.loop-step.step-index c.amount.result _ d (omega (arith, c.loop-step-test.true)) c.amount.ensures) c.max-greatest.ensures

pub returns : goal.returns
returns c = factor_of c.args.steps.now c.loop-step.step-index c.args.q c.loop-step.greatest c.max.result (omega (arith, c.loop-step-test.false)) (omega (arith, c.loop-step.auto.step-index-end)) c.loop-step.invariant c.max.ensures

use Rattle.std.proofs.Common.{subst}
use Rattle.cfn_rebase.specs.Making.{IsTried}
use Rattle.cfn_rebase.proofs.Fronting.{making_start, making_made, next_spelled, front_ends, front_stops}
use Rattle.cfn_rebase.proofs.ground.Ground.front.Goals as goal

pub loop-step-init : goal.loop-step-init
loop-step-init c = rw c.into_iter-step-iterator.ensures.into_iter_gives (rw c.cursor-step-items.ensures.steps (making_start c.args.self.now c.args.block.now c.args.threshold c.requires c.cursor-step-items.ensures.spelled))

pub step-requires : goal.step-requires
step-requires c = record { spelled = next_spelled c.args.self.now c.loop-step.self c.args.block.now c.loop-step.step-iterator c.next.new.self c.in-Some.step c.args.threshold c.loop-step.invariant c.in-Some.ensures.steps }

pub loop-step-preserved : goal.loop-step-preserved
loop-step-preserved c = making_made c.args.self.now c.loop-step.self c.step.new.self c.args.block.now c.loop-step.step-iterator c.next.new.self c.in-Some.step c.args.threshold c.loop-step.invariant c.in-Some.ensures.steps
    (subst (λ b. IsTried c.loop-step.self c.args.threshold c.in-Some.step c.step.new.self b) c.if-not-made.false c.in_ok-made.ensures)

pub returns-then-not-made-clause-front : goal.returns-then-not-made-clause-front
returns-then-not-made-clause-front c = front_stops c.args.self.now c.loop-step.self c.step.new.self c.args.block.now c.loop-step.step-iterator c.next.new.self c.in-Some.step c.args.threshold c.loop-step.invariant c.in-Some.ensures.steps
    (subst (λ b. IsTried c.loop-step.self c.args.threshold c.in-Some.step c.step.new.self b) c.if-not-made.true c.in_ok-made.ensures) c.law_stays_tame.ensures

pub returns-clause-front : goal.returns-clause-front
returns-clause-front c = front_ends c.args.self.now c.loop-step.self c.args.block.now c.loop-step.step-iterator c.args.threshold c.loop-step.invariant c.in-None.ensures.steps.0 c.law_stays_tame-2.ensures

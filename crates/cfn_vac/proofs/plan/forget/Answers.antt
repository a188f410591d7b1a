use Rattle.std.proofs.Common.{reverse, subst}
use Rattle.cfn_vac.specs.Running.{AreShifts}
use Rattle.cfn_vac.proofs.Running.{shifts_front, shifts_last}
use Rattle.cfn_vac.proofs.Wanting.{forgetting_start, forgetting_more, all_forgotten}
use Rattle.cfn_vac.proofs.plan.forget.Goals as goal

pub loop-step-init : goal.loop-step-init
loop-step-init c = record { shifts = c.requires.shifts; rest = forgetting_start c.args.network.now (reverse c.args.steps.now) c.args.wants.now c.requires.wants }

pub forget_one-requires-clause-shift : goal.forget_one-requires-clause-shift
forget_one-requires-clause-shift c =
    let P = c.args.network.now in
    shifts_last P c.in-Some.earlier.now c.in-Some.step.now (subst (AreShifts P) c.in-Some.ensures.cases.0 c.loop-step.invariant.shifts)

pub loop-step-preserved : goal.loop-step-preserved
loop-step-preserved c =
    let P = c.args.network.now in let v = c.loop-step.invariant in let is = c.in-Some.ensures.cases.0 in
    record {
      shifts = shifts_front P c.in-Some.earlier.now c.in-Some.step.now (subst (AreShifts P) is v.shifts);
      rest = c.forget_one.ensures (reverse c.in-Some.earlier.now) (forgetting_more P c.loop-step.left.now c.in-Some.earlier.now c.in-Some.step.now c.loop-step.wants is v.rest);
    }

pub returns : goal.returns
returns c = all_forgotten c.args.network.now c.loop-step.left.now c.loop-step.wants c.in_default.ensures.cases c.loop-step.invariant.rest

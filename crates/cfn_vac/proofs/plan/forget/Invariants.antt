use Rattle.std.proofs.Common.{length, reverse}
use Rattle.cfn_vac.specs.Running.{AreShifts}
use Rattle.cfn_vac.specs.Tables.{AreOfSteps}
use Rattle.cfn_vac.proofs.plan.forget.Given as goal

abbrev pub invariant-loop-step : goal.invariant-loop-step
invariant-loop-step l = record {
  shifts : AreShifts l.network l.left;
  rest : AreOfSteps l.network (reverse l.left) l.wants;
}

abbrev pub decreases-loop-step : goal.decreases-loop-step
decreases-loop-step l = length l.left

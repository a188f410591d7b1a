use Rattle.std.proofs.Common.{length}
use Rattle.cfn_vac.proofs.Running.{IsMaking}
use Rattle.cfn_vac.proofs.run.make_all.Given as goal

abbrev pub invariant-loop-step : goal.invariant-loop-step
invariant-loop-step l = IsMaking l.initial.store l.store l.factor l.steps l.left

abbrev pub decreases-loop-step : goal.decreases-loop-step
decreases-loop-step l = length l.left

use Rattle.cfn_vac.proofs.Lifts.{IsGreatestYet}
use Rattle.cfn_vac.proofs.lifter.factor.Given as goal

abbrev pub invariant-loop-step : goal.invariant-loop-step
invariant-loop-step l = IsGreatestYet l.steps l.step-index l.greatest

use Rattle.cfn_trim.proofs.Running.{IsRunning}
use Rattle.cfn_trim.proofs.run.run.Given as goal

abbrev pub invariant-loop-step : goal.invariant-loop-step
invariant-loop-step l = IsRunning l.fn.store l.store l.whole l.step-iterator l.threshold

use Rattle.cfn_rebase.proofs.Fronting.{IsMaking}
use Rattle.cfn_rebase.proofs.ground.Ground.front.Given as goal

abbrev pub invariant-loop-step : goal.invariant-loop-step
invariant-loop-step l = IsMaking l.fn.self l.self l.block l.step-iterator l.threshold

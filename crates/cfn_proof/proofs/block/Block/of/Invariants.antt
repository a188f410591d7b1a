use Rattle.std.proofs.Common.{◌≡◌, take}
use Rattle.cfn_proof.proofs.block.Block.of.Given as goal

abbrev pub invariant-loop-step : goal.invariant-loop-step
invariant-loop-step l = l.block ≡ take l.step-index l.steps

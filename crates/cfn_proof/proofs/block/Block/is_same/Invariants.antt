use Rattle.std.proofs.Common.{◌≡◌, ◌↔◌}
use Rattle.cfn_proof.proofs.block.Block.is_same.Given as goal

-- the blocks are the same where the steps that are left are
abbrev pub invariant-loop-step : goal.invariant-loop-step
invariant-loop-step l = (l.self ≡ l.other) ↔ (l.step-iterator ≡ l.steps)

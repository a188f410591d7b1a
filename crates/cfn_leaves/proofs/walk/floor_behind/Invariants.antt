use Rattle.std.proofs.Common.{◌≡◌, ◌+◌}
use Rattle.cfn_leaves.specs.Walked.{lifts}
use Rattle.cfn_leaves.proofs.walk.floor_behind.Given as goal

-- the sum so far and the steps that are left make the whole
abbrev pub invariant-loop-step : goal.invariant-loop-step
invariant-loop-step l = l.sum + lifts l.step-iterator ≡ l.fn.floor + lifts l.block

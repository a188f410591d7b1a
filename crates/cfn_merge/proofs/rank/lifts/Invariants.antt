use Rattle.std.proofs.Common.{◌≡◌, ◌+◌}
use Rattle.cfn_mending.specs.Joining.{lifts}
use Rattle.cfn_merge.proofs.rank.lifts.Given as goal

-- the sum so far and the steps that are left make the whole
abbrev pub invariant-loop-step : goal.invariant-loop-step
invariant-loop-step l = l.sum + lifts l.step-iterator ≡ lifts l.block

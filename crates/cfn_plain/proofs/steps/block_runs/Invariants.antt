use Rattle.std.proofs.Common.{◌≡◌, ◌++◌}
use Rattle.cfn_plain.proofs.steps.block_runs.Given as goal

-- the steps so far and those that are left are all
abbrev pub invariant-loop-step : goal.invariant-loop-step
invariant-loop-step l = l.steps.items ++ l.step-iterator ≡ l.block

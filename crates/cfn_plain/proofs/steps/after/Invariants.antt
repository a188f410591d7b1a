use Rattle.std.proofs.Common.{◌≡◌}
use Rattle.cfn_model.specs.Steps.{after}
use Rattle.cfn_plain.proofs.steps.after.Given as goal

-- the history after the steps that are left is the history after all
abbrev pub invariant-loop-step : goal.invariant-loop-step
invariant-loop-step l = after l.step-iterator l.events.items ≡ after l.block l.history

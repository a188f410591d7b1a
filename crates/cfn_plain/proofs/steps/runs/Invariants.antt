use Rattle.std.proofs.Common.{drop}
use Rattle.std.specs.Prelude.{◌↔◌}
use Rattle.cfn_model.specs.Steps.{Run}
use Rattle.cfn_plain.proofs.steps.runs.Given as goal

-- the steps run where those that are left run
abbrev pub invariant-loop-step : goal.invariant-loop-step
invariant-loop-step l = Run l.network l.events.items (drop l.step-index l.steps) l.k ↔ Run l.network l.history l.steps l.k

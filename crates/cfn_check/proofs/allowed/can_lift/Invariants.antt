use Rattle.std.proofs.Common.{ℕ, ◌<◌}
use Rattle.cfn_model.specs.Steps.{CanExtend}
use Rattle.cfn_check.proofs.allowed.can_lift.Given as goal

-- the smaller values are not live, or have the unary cost
abbrev pub invariant-loop-value : goal.invariant-loop-value
invariant-loop-value l = (a : ℕ) → a < l.value → CanExtend l.network l.ledger.history l.x a l.amount

use Rattle.std.proofs.Common.{ℕ, ◌<◌}
use Rattle.std.specs.Prelude.{IsFalse}
use Rattle.cfn_model.specs.Sums.{is_live}
use Rattle.cfn_plain.proofs.closing.has_live.Given as goal

-- the smaller values are not live
abbrev pub invariant-loop-value : goal.invariant-loop-value
invariant-loop-value l = (a : ℕ) → a < l.value → IsFalse (is_live l.history l.x a)

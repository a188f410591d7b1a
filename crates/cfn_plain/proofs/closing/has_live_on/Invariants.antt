use Rattle.std.proofs.Common.{◌≡◌, ℕ, ◌<◌}
use Rattle.std.specs.Prelude.{IsFalse}
use Rattle.cfn_model.specs.Decisions.{keeps}
use Rattle.cfn_model.specs.Sums.{is_live}
use Rattle.cfn_plain.proofs.closing.has_live_on.Given as goal

-- the smaller values on the side are not live
abbrev pub invariant-loop-value : goal.invariant-loop-value
invariant-loop-value l = (a : ℕ) → a < l.value → keeps l.decision a ≡ l.first → IsFalse (is_live l.history l.x a)

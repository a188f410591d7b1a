use Rattle.std.proofs.Common.{◌≡◌, ℕ, ◌<◌}
use Rattle.std.specs.Prelude.{IsTrue}
use Rattle.cfn_model.specs.Sums.{is_live}
use Rattle.cfn_check.proofs.only.has_only_at.Given as goal

-- the smaller values are not live, or are this one
abbrev pub invariant-loop-value : goal.invariant-loop-value
invariant-loop-value l = (a : ℕ) → a < l.value → IsTrue (is_live l.ledger.history l.x a) → a ≡ l.own

use Rattle.std.proofs.Common.{ℕ, ◌<◌}
use Rattle.std.specs.Prelude.{slice_index}
use Rattle.cfn_check.specs.Asking.{HasOnlyAt}
use Rattle.cfn_check.proofs.only.has_only.Given as goal

-- of the variables before this one, no other value is live
abbrev pub invariant-loop-x : goal.invariant-loop-x
invariant-loop-x l = (y : ℕ) → y < l.x → HasOnlyAt l.network l.ledger.history y (slice_index l.values y)

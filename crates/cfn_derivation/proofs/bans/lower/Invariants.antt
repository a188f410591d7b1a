use Rattle.std.proofs.Common.{◌≡◌, ℕ, ◌<◌, length, false}
use Rattle.std.specs.Prelude.{slice_index_or, IsFalse}
use Rattle.cfn_derivation.proofs.bans.lower.Given as goal

abbrev pub invariant-loop-i : goal.invariant-loop-i
invariant-loop-i l = record {
  size : length l.row ≡ length l.initial.row;
  down : (k : ℕ) → k < l.i → IsFalse (slice_index_or l.row k false);
}

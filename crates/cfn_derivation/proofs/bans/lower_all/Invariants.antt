use Rattle.std.proofs.Common.{◌≡◌, ℕ, ◌<◌, length}
use Rattle.std.specs.Prelude.{IsFalse}
use Rattle.cfn_rows.specs.Jagged.{row_at}
use Rattle.cfn_derivation.specs.Banned.{flag_at}
use Rattle.cfn_derivation.proofs.bans.lower_all.Given as goal

abbrev pub invariant-loop-r : goal.invariant-loop-r
invariant-loop-r l = record {
  rows : length l.rows ≡ length l.initial.rows;
  shape : (r : ℕ) → length (row_at l.rows r) ≡ length (row_at l.initial.rows r);
  down : (r i : ℕ) → r < l.r → IsFalse (flag_at l.rows r i);
}

use Rattle.std.proofs.Common.{◌≡◌, ℕ, ◌<◌, ◌≤◌, length}
use Rattle.cfn_scan.specs.Rows.{difference_at}
use Rattle.cfn_scan.proofs.rows.least_difference.Given as goal

-- the least is one of the differences, and at most those so far
abbrev pub invariant-loop-i : goal.invariant-loop-i
invariant-loop-i l = record {
  one : (place : ℕ) × (place < length l.entries) × (difference_at l.entries l.shifted place ≡ l.least);
  most : (i : ℕ) → i < l.i → l.least ≤ difference_at l.entries l.shifted i;
}

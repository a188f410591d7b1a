use Rattle.std.proofs.Common.{◌≡◌, ◌-◌, ◌<◌, ◌≤◌, ℕ, true, false, length, get_or}
use Rattle.std.specs.Prelude.{nat_lt}
use Rattle.cfn_rows.specs.Order.{AreInverse, stays}
use Rattle.cfn_rows.proofs.order.part.Given as goal

-- values that were passed stay, and those behind what is left don't
abbrev pub invariant-loop-passed : goal.invariant-loop-passed
invariant-loop-passed l = record {
  order : AreInverse l.values l.places;
  size : length l.places ≡ length l.initial.places;
  passed : l.passed ≤ l.left;
  left : l.left ≤ l.count;
  stay : (i : ℕ) → i < l.passed → stays l.kept (get_or l.values i 0) ≡ true;
  go : (i : ℕ) → l.left ≤ i → i < l.count → stays l.kept (get_or l.values i 0) ≡ false;
  above : (a n : ℕ) → a < length l.places → l.count ≤ n → nat_lt (get_or l.places a 0) n ≡ nat_lt (get_or l.initial.places a 0) n;
}

abbrev pub decreases-loop-passed : goal.decreases-loop-passed
decreases-loop-passed l = l.left - l.passed

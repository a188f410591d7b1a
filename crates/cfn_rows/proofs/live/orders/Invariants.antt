use Rattle.std.proofs.Common.{◌≡◌, ◌<◌, ℕ, length, map, get_or}
use Rattle.cfn_rows.specs.Jagged.{row_at}
use Rattle.cfn_rows.proofs.live.orders.Given as goal

-- each row is as long as its size, and those so far have each value at its own place
abbrev pub invariant-loop-x : goal.invariant-loop-x
invariant-loop-x l = record {
  sizes : map length l.rows ≡ l.sizes;
  places : (y a : ℕ) → y < l.x → a < length (row_at l.rows y) → get_or (row_at l.rows y) a 0 ≡ a;
}

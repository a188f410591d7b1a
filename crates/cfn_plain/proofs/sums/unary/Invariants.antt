use Rattle.std.proofs.Common.{◌≡◌, ◌*◌, drop, pos, neg_ℤ, ◌+ℤ◌, ◌≤ℤ◌}
use Rattle.cfn_model.specs.Sums.{unary}
use Rattle.cfn_plain.proofs.sums.unary.Given as goal

-- the sum so far and what the other events add are the unary cost
abbrev pub invariant-loop-event : goal.invariant-loop-event
invariant-loop-event l = record {
  rest : (l.sum +ℤ unary l.network (drop l.event-index l.history) l.x l.value) ≡ unary l.network l.history l.x l.value;
  low : neg_ℤ (pos (18446744073709551615 * l.event-index)) ≤ℤ l.sum;
  high : l.sum ≤ℤ pos (18446744073709551615 * l.event-index);
}

use Rattle.std.proofs.Common.{◌≡◌, ◌*◌, drop, pos, neg_ℤ, ◌+ℤ◌, ◌≤ℤ◌}
use Rattle.cfn_model.specs.Sums.{residual}
use Rattle.cfn_plain.proofs.sums.residual.Given as goal

-- the sum so far and what the other events add are the residual cost
abbrev pub invariant-loop-event : goal.invariant-loop-event
invariant-loop-event l = record {
  rest : (l.sum +ℤ residual l.network (drop l.event-index l.history) l.f l.tuple) ≡ residual l.network l.history l.f l.tuple;
  low : neg_ℤ (pos (18446744073709551615 * l.event-index)) ≤ℤ l.sum;
  high : l.sum ≤ℤ pos (18446744073709551615 * l.event-index);
}

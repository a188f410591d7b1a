use Rattle.std.proofs.Common.{◌≡◌, ◌+◌, ◌*◌, ◌≤◌, drop}
use Rattle.cfn_model.specs.Sums.{floor}
use Rattle.cfn_plain.proofs.sums.floor.Given as goal

-- the sum so far and what the other events add are the floor
abbrev pub invariant-loop-event : goal.invariant-loop-event
invariant-loop-event l = record {
  rest : l.sum + floor l.network (drop l.event-index l.history) ≡ floor l.network l.history;
  small : l.sum ≤ 18446744073709551615 * l.event-index;
}

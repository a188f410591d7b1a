use Rattle.std.proofs.Common.{◌≡◌, map, replicate, Some}
use Rattle.std.specs.List.{AllByRecursion}
use Rattle.cfn_machine.specs.Pool.{new_view}
use Rattle.cfn_core.specs.Machine.{IsSeatOf, seat_of}
use Rattle.cfn_core.proofs.seat.new_seats.Given as goal

-- the seats so far have found nothing
abbrev pub invariant-loop-made : goal.invariant-loop-made
invariant-loop-made l = record {
  views : map seat_of l.seats.items ≡ replicate l._made (Some (new_view l.network 1));
  each : AllByRecursion (IsSeatOf l.network) l.seats.items;
}

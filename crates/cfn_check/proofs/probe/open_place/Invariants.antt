use Rattle.std.proofs.Common.{◌≤◌, ◌-◌}
use Rattle.std.specs.Prelude.{◌↔◌}
use Rattle.cfn_model.specs.Network.{arity}
use Rattle.cfn_check.specs.Probing.{IsSpot, Lacks}
use Rattle.cfn_check.proofs.probe.open_place.Given as goal

-- as much is lacking from the spot as from the first one
abbrev pub invariant-loop-spot : goal.invariant-loop-spot
invariant-loop-spot l = record {
  spot : IsSpot l.network l.asked.function l.spot;
  later : l.initial.spot.place ≤ l.spot.place;
  same : Lacks l.network l.ledger.history l.asked l.spot ↔ Lacks l.network l.ledger.history l.asked l.initial.spot;
}

-- the places that are left
abbrev pub decreases-loop-spot : goal.decreases-loop-spot
decreases-loop-spot l = arity l.network l.asked.function - l.spot.place

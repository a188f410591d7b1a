-- What a world keeps after an action, in the words of its fields.
use Rattle.std.proofs.Common.{◌≡◌, List, map, reverse, sym, ◌∙◌, subst}
use Rattle.std.specs.List.{AllByRecursion}
use Rattle.cfn_net.specs.Scoring.{Scoring}
use Rattle.cfn_core.specs.declared.seat.Seat.{Seat}
use Rattle.cfn_core.specs.declared.world.World.TheInside.{Inside}
use Rattle.cfn_core.specs.Actions.{Action, Reply, IsAction, Acts}
use Rattle.cfn_core.specs.Machine.{Machine, world_of, found_of, seat_of, IsInside, IsSeatOf}
use Rattle.cfn_core.proofs.Machines.{acted}

-- what contracts see of a world with these fields
abbrev pub value : Inside → Machine
value w = record {
  network = w.network.now;
  leaves = w.leaves;
  view = record { best = found_of w.best.held; seen = w.seen; shares = w.shares };
  word = w.word;
  views = map seat_of w.seats.items;
  notes = w.notes.items;
  hands = reverse w.hands.items;
}

-- an action that leaves the leaves' network as it was
pub viewed : (m new : Machine) (best best' : Scoring) (seats seats' : List Seat) (a : Action) (r : Reply) → IsInside m best seats → IsAction m.network a → Acts m.network (world_of m) a r (world_of new) →
    new.network ≡ m.network → new.leaves.network ≡ m.leaves.network → best'.network ≡ m.network → AllByRecursion (IsSeatOf m.network) seats' → IsInside new best' seats'
viewed m new best best' seats seats' a r is brings acts network leaves own each = record {
  machine = acted m new a r is.machine brings acts network leaves;
  own = own ∙ sym network;
  each = subst (λ P. AllByRecursion (IsSeatOf P) seats') (sym network) each;
}

-- an action on the pool's leaves: what is kept of assignments stays
pub changed : (m new : Machine) (best : Scoring) (seats : List Seat) (a : Action) (r : Reply) → IsInside m best seats → IsAction m.network a → Acts m.network (world_of m) a r (world_of new) →
    new.network ≡ m.network → new.leaves.network ≡ m.leaves.network → IsInside new best seats
changed m new best seats a r is brings acts network leaves = viewed m new best best seats seats a r is brings acts network leaves is.own is.each

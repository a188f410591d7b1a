use Rattle.cfn_store.proofs.Rooms.{LeastBefore}
use Rattle.cfn_store.proofs.store.Store.lift_room.Given as goal

abbrev pub invariant-loop-value : goal.invariant-loop-value
invariant-loop-value l = LeastBefore l.self l.x l.value-items l.value-index l.room

use Rattle.std.proofs.Common.{◌+◌, subst, sym, arith}
use Rattle.cfn_store.proofs.Rooms.{LeastBefore, one_more, whole}
use Rattle.cfn_store.proofs.store.Store.lift_room.Goals as goal

pub loop-value-preserved : goal.loop-value-preserved
loop-value-preserved c = subst (LeastBefore c.args.self.now c.args.x c.live-value-items.result.now (c.loop-value.value-index + 1)) (sym c.min-room.ensures)
    (one_more c.args.self.now c.args.x c.live-value-items.result.now c.loop-value.value-index c.loop-value.room c.unary.result (c.unary.ensures (c.live-value-items.ensures.live c.loop-value.value-index c.loop-value-test.true).1) c.loop-value.invariant)

pub returns : goal.returns
returns c = whole c.args.self.now c.args.x c.live-value-items.result.now c.loop-value.value-index c.loop-value.room c.requires c.live-value-items.ensures (let f = c.loop-value-test.false in omega (arith, f)) (let e = c.loop-value.auto.value-index-end in omega (arith, e)) c.loop-value.invariant

use Rattle.std.proofs.Common.{refl, arith}
use Rattle.cfn_model.specs.Network.{dims}
use Rattle.cfn_net.proofs.Cells.{turn, Along-start}
use Rattle.cfn_net.proofs.function.cell_of.Goals as goal

pub loop-place-init : goal.loop-place-init
loop-place-init c = Along-start (dims c.args.sizes.now c.args.scope.now) c.args.tuple.now c.requires.fits

pub overflow_mul-cell : goal.overflow_mul-cell
overflow_mul-cell c =
    let t = turn c.args.sizes.now c.args.scope.now c.args.tuple.now c.args.scope.now c.loop-place.place c.loop-place.cell refl (omega arith) c.loop-place.invariant in
    omega (arith, t.below, c.requires.scope.few)

pub bounds-tuple-place : goal.bounds-tuple-place
bounds-tuple-place c =
    (turn c.args.sizes.now c.args.scope.now c.args.tuple.now c.args.scope.now c.loop-place.place c.loop-place.cell refl (omega arith) c.loop-place.invariant).tuple_in

pub overflow_add-cell : goal.overflow_add-cell
overflow_add-cell c =
    let t = turn c.args.sizes.now c.args.scope.now c.args.tuple.now c.args.scope.now c.loop-place.place c.loop-place.cell refl (omega arith) c.loop-place.invariant in
    omega (arith, t.below, c.requires.scope.few)

pub loop-place-preserved : goal.loop-place-preserved
loop-place-preserved c =
    (turn c.args.sizes.now c.args.scope.now c.args.tuple.now c.args.scope.now c.loop-place.place c.loop-place.cell refl (omega arith) c.loop-place.invariant).next

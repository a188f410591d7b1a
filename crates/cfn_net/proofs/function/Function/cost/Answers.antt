use Rattle.std.proofs.Common.{rules, slice_index_or, ◌<◌, length, arith}
use Rattle.cfn_model.specs.Network.{dims, restrict}
use Rattle.cfn_net.proofs.Cells.{Fits-length, Fits-restrict, turn_of_values, Along-start}
use Rattle.cfn_net.proofs.function.Function.cost.Goals as goal

pub loop-x-init : goal.loop-x-init
loop-x-init c =
    let sizes = c.args.sizes.now in
    let scope = c.args.self.now.scope in
    Along-start (dims sizes scope) (restrict scope c.args.values.now) (Fits-restrict sizes c.args.values.now scope c.requires.fits c.requires.scope.variables)

pub overflow_mul-cell : goal.overflow_mul-cell
overflow_mul-cell c =
    let t = turn_of_values c.args.sizes.now c.args.self.now.scope c.args.values.now c.scope-x-items.result.now c.loop-x.x-index c.loop-x.cell c.scope-x-items.ensures (omega arith) c.loop-x.invariant in
    omega (arith, t.below, c.requires.scope.few)

pub overflow_add-cell : goal.overflow_add-cell
overflow_add-cell c =
    let t = turn_of_values c.args.sizes.now c.args.self.now.scope c.args.values.now c.scope-x-items.result.now c.loop-x.x-index c.loop-x.cell c.scope-x-items.ensures (omega arith) c.loop-x.invariant in
    omega (arith, t.below, c.requires.scope.few)

pub loop-x-preserved : goal.loop-x-preserved
loop-x-preserved c =
    (turn_of_values c.args.sizes.now c.args.self.now.scope c.args.values.now c.scope-x-items.result.now c.loop-x.x-index c.loop-x.cell c.scope-x-items.ensures (omega arith) c.loop-x.invariant).next

pub bounds-values-x : goal.bounds-values-x
bounds-values-x c =
    let sizes = c.args.sizes.now in
    let l : slice_index_or c.scope-x-items.result.now c.loop-x.x-index 0 < length sizes = search rules in
    omega (arith, Fits-length sizes c.args.values.now c.requires.fits)

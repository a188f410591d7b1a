use Rattle.std.proofs.Common.{◌+◌, ◌<◌, length, arith}
use Rattle.cfn_model.specs.Network.{dims}
use Rattle.cfn_net.proofs.Cells.{Inhabited-dims, cells-drop-pos, product_more, product_below}
use Rattle.cfn_net.proofs.function.cells_of.Goals as goal

pub overflow_mul-cells : goal.overflow_mul-cells
overflow_mul-cells c =
    let sizes = c.args.sizes.now in
    let scope = c.args.scope.now in
    let l : c.loop-x.x-index < length scope = omega arith in
    let pos = cells-drop-pos (dims sizes scope) (c.loop-x.x-index + 1) (Inhabited-dims sizes scope c.requires.sizes c.requires.scope) in
    omega (arith, product_below _ _ _ pos (product_more sizes scope c.loop-x.x-index c.loop-x.cells l c.loop-x.invariant), c.requires.few)

pub loop-x-preserved : goal.loop-x-preserved
loop-x-preserved c =
    product_more c.args.sizes.now c.args.scope.now c.loop-x.x-index c.loop-x.cells (omega arith) c.loop-x.invariant

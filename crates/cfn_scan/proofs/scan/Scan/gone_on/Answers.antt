use Rattle.std.proofs.Common.{◌+◌, ◌*◌, ◌<◌, slice_index, arith}
use Rattle.cfn_scan.proofs.Scans.{spot_behind, small_cell}
use Rattle.cfn_scan.proofs.scan.Scan.gone_on.Goals as goal

-- the number that comes is below the table's length
small : (c : goal.After-struct_known-1) → c.args.spot.cell * slice_index c.args.self.now.sizes.now c.args.x + c.args.value < 4194304
small c =
    let r = c.requires in
    let is = spot_behind c.args.self.now c.args.x r.scope c.args.spot c.args.value r.spot_is r.value_is in
    let l = small_cell c.args.self.now r.scope _ is in
    let f = is.few in omega (arith, l, f)

pub overflow_mul-result : goal.overflow_mul-result
overflow_mul-result c = (let s = small c in omega (arith, s))

pub overflow_add-result : goal.overflow_add-result
overflow_add-result c = (let s = small c in omega (arith, s))

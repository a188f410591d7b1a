use Rattle.std.proofs.Common.{length, ap, arith}
use Rattle.cfn_rows.proofs.Cutting.{length_of}
use Rattle.cfn_rows.proofs.rows.Rows.len.Goals as goal

pub returns : goal.returns
returns g c =
    let h = length_of c.self.inside.items.items c.self.inside.starts.items _ c.self.invariant in
    let e = ap length c.self.view_is in
    let n = c.self.inside.starts.ok.0 in
    let r = c.len.ensures in
    omega (arith, h, e, n, r)

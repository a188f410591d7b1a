use Rattle.std.proofs.Common.{length, sym, ap, ◌∙◌}
use Rattle.cfn_net.proofs.Spreads.{length-spread}
use Rattle.cfn_net.proofs.sparse.Sparse.len.Goals as goal

pub returns : goal.returns
returns c =
    let inside = c.self.inside in
    sym (ap length (sym c.self.view_is) ∙ length-spread inside.cells inside.default inside.listed.items)

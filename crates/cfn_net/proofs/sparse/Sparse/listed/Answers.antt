use Rattle.std.proofs.Common.{length, sym, ap, ◌∙◌}
use Rattle.cfn_net.specs.Listed.{spread}
use Rattle.cfn_net.proofs.Spreads.{length-spread}
use Rattle.cfn_net.proofs.sparse.Sparse.listed.Goals as goal

pub returns : goal.returns
returns c =
    let inside = c.self.inside in
    ap (spread (length c.args.self.now) inside.default) c.as_slice.ensures.value ∙ ap (λ n. spread n inside.default inside.listed.items) (ap length (sym c.self.view_is) ∙ length-spread inside.cells inside.default inside.listed.items) ∙ c.self.view_is

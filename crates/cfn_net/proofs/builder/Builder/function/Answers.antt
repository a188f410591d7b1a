use Rattle.std.proofs.Common.{[], ap, ◌∙◌, take, arith}
use Rattle.cfn_model.specs.Network.{function_of}
use Rattle.cfn_net.specs.Building.{last, listings_of}
use Rattle.cfn_net.proofs.Listings.{last-with_function, listed_more}
use Rattle.cfn_net.proofs.builder.Builder.function.Goals as goal

pub loop-tuple-preserved : goal.loop-tuple-preserved
loop-tuple-preserved c =
    let P = c.args.self.now in
    let draft = c.self.inside.draft in
    let built = c.loop-tuple.invariant in
    let at = ap last (c.self.view_is ∙ built) ∙ last-with_function P (function_of P.sizes P.upper c.args.scope.now c.args.default (listings_of (take c.loop-tuple.tuple-index c.args.listed.now))) in
    listed_more P c.loop-tuple.self draft c.list.new.self c.args.scope.now c.args.default c.args.listed.now c.loop-tuple.tuple-index (record { ref_ptr = (0, 0); now = [] }, 0) c.cell-cell.result (last draft) c.self.view_is built (omega arith) at c.cell-cell.ensures.value c.list.ensures

use Rattle.std.proofs.Common.{◌≡◌, ◌<◌, length, get_or, arith, ap, sym, ◌∙◌}
use Rattle.std.specs.Prelude.{slice_index}
use Rattle.cfn_model.specs.Network.{dims_at, scope_at, arity}
use Rattle.cfn_net.proofs.CallerLemmas.{get_or-dims, length-dims}
use Rattle.cfn_scan.proofs.Offsets.{offset_next}
use Rattle.cfn_scan.proofs.slots.width.Goals as goal

pub loop-x-preserved : goal.loop-x-preserved
loop-x-preserved c =
    let P = c.args.network.now in let f = c.args.f in let i = c.loop-x.x-index in
    let within : i < arity P f = (let t = c.loop-x-test.true in let l = ap length c.scope-x-items.ensures in omega (arith, t, l)) in
    let s = offset_next (dims_at P f) i (omega (arith, within, length-dims P.sizes (scope_at P f))) in
    let size : c.size.result ≡ slice_index (dims_at P f) i = c.size.ensures ∙ ap (λ l. slice_index P.sizes (get_or l i 0)) c.scope-x-items.ensures ∙ sym (get_or-dims P.sizes (scope_at P f) i within) in
    let v = c.loop-x.invariant in let w = c.in_ok-width.ensures.1 in
    omega (arith, v, w, s, size)

use Rattle.std.proofs.Common.{◌≡◌, ◌+◌, ◌<◌, length, get_or, arith, ap, sym, ◌∙◌}
use Rattle.std.proofs.lemmas.List.{get_or-take, length-take-le}
use Rattle.std.specs.Prelude.{slice_index, take}
use Rattle.cfn_model.specs.Network.{dims_at, scope_at}
use Rattle.cfn_net.proofs.CallerLemmas.{get_or-dims, length-dims}
use Rattle.cfn_scan.specs.Shifts.{offset}
use Rattle.cfn_scan.proofs.Offsets.{offset_next, offset_least}
use Rattle.cfn_scan.proofs.slots.slot_of.Goals as goal

-- the size that comes next is that of the place, which is before the one that is asked for
next : (c : goal.After-size) → (c.loop-x.x-index < c.args.place) × (c.size.result ≡ slice_index (dims_at c.args.network.now c.args.f) c.loop-x.x-index)
next c =
    let P = c.args.network.now in let f = c.args.f in let i = c.loop-x.x-index in
    let before : i < c.args.place = (let t = c.loop-x-test.true in let s = length-take-le c.args.place c.scope.result.now (omega (arith, c.requires.place.place, ap length c.scope.ensures)) in omega (arith, t, s)) in
    let scope : get_or (take c.args.place c.scope.result.now) i 0 ≡ get_or (scope_at P f) i 0 = get_or-take c.args.place c.scope.result.now i 0 before ∙ ap (λ l. get_or l i 0) c.scope.ensures in
    (before, c.size.ensures ∙ ap (slice_index P.sizes) scope ∙ sym (get_or-dims P.sizes (scope_at P f) i (omega (arith, before, c.requires.place.place))))

pub overflow_add-slot : goal.overflow_add-slot
overflow_add-slot c =
    let P = c.args.network.now in let f = c.args.f in let i = c.loop-x.x-index in
    let n = next c in let v = c.loop-x.invariant in
    let l = length-dims P.sizes (scope_at P f) in
    let within : c.args.place < length (dims_at P f) = omega (arith, c.requires.place.place, l) in
    let s = offset_next (dims_at P f) i (omega (arith, within, n.0)) in
    let t = offset_next (dims_at P f) c.args.place within in
    let m = offset_least (dims_at P f) (i + 1) c.args.place (omega (arith, n.0)) (omega (arith, within)) in
    let r = offset_least (dims_at P f) (c.args.place + 1) (length (dims_at P f)) (omega (arith, within)) (omega arith) in
    omega (arith, v, n.1, s, t, m, r, c.requires.place.value, c.requires.width, c.ranges.width.fits, ap (offset (dims_at P f)) l)

pub loop-x-preserved : goal.loop-x-preserved
loop-x-preserved c =
    let P = c.args.network.now in let f = c.args.f in
    let n = next c in let v = c.loop-x.invariant in
    let s = offset_next (dims_at P f) c.loop-x.x-index (omega (arith, n.0, c.requires.place.place, length-dims P.sizes (scope_at P f))) in
    omega (arith, v, n.1, s)

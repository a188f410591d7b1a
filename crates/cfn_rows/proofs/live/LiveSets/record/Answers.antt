use Rattle.std.proofs.Common.{◌≡◌, ◌<◌, ◌-◌, ◌∷◌, length, get_or, map, reverse, sym, ap, ◌∙◌, arith}
use Rattle.std.proofs.lemmas.List.{get_or_read, length-map}
use Rattle.std.specs.Prelude.{vec_len, vec_capacity}
use Rattle.cfn_rows.specs.Jagged.{row_at}
use Rattle.cfn_rows.specs.Order.{Narrows, stays}
use Rattle.cfn_rows.specs.Sets.{with_event}
use Rattle.cfn_rows.proofs.Tracing.{recorded, newest_first, sizes_kept}
use Rattle.cfn_rows.proofs.live.LiveSets.record.Goals as goal

pub invariant_of-self : goal.invariant_of-self
invariant_of-self c =
    let x = c.args.x in
    let s = c.self.inside in
    let there : x < length s.places = omega (arith, c.requires.variable, ap (λ v. length v.sizes) c.self.view_is, length-map s.places length) in
    let count : c.index-count.result.now ≡ get_or s.counts.items x 0 = get_or_read s.counts.items x c.index-count.result.now (omega (arith, there, c.self.invariant.counted)) c.index-count.ensures 0 in
    let narrows = c.narrow-left.ensures.narrows in
    let order = c.narrow-left.ensures.order in
    let row = c.row_mut-2.ensures.value in
    let places : length c.narrow-left.new.places ≡ length (row_at s.places x) = narrows.size ∙ ap length row in
    let values : length c.narrow-left.new.values ≡ length (row_at s.values x) = order.same ∙ places ∙ sym (c.self.invariant.orders x there).same in
    let here : Narrows (row_at s.places x) c.narrow-left.new.places (get_or s.counts.items x 0) c.narrow-left.result (stays c.args.kept) = rw row at (rw count at narrows) in
    let first = c.row_mut.ensures.others c.narrow-left.new.values values in
    let second = c.row_mut-2.ensures.others c.narrow-left.new.places places in
    let trail = newest_first s.trail.items _ c.push_reserved.new.self.items c.push_reserved.ensures.items ∙ ap (λ n. record { variable = x; count = n } ∷ reverse s.trail.items) count in
    rw (first, second, trail, c.add.ensures)
    (recorded s.values s.places s.counts.items (reverse s.trail.items) s.past.events x c.narrow-left.result c.narrow-left.new.values c.narrow-left.new.places c.args.event (stays c.args.kept) c.self.invariant there order here c.requires.event)

pub returns : goal.returns
returns c =
    let x = c.args.x in
    let s = c.self.inside in
    let row = c.row_mut-2.ensures.value in
    let places : length c.narrow-left.new.places ≡ length (row_at s.places x) = c.narrow-left.ensures.narrows.size ∙ ap length row in
    let second = c.row_mut-2.ensures.others c.narrow-left.new.places places in
    let sizes = ap (map length) second ∙ sizes_kept s.places x c.narrow-left.new.places places in
    let spare : vec_capacity c.push_reserved.new.self - vec_len c.push_reserved.new.self ≡ (vec_capacity s.trail - vec_len s.trail) - 1 = omega (arith, c.push_reserved.ensures.len, c.push_reserved.ensures.capacity) in
    rw (sizes, spare, c.add.ensures) (ap (λ v. with_event v c.args.event) c.self.view_is)

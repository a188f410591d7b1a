use Rattle.std.proofs.Common.{◌≡◌, ◌<◌, length, get_or, sym, ap, ◌∙◌, arith}
use Rattle.std.proofs.lemmas.List.{get_or_read, length-map}
use Rattle.cfn_rows.specs.Jagged.{row_at}
use Rattle.cfn_rows.specs.Sets.{live_below, live_count}
use Rattle.cfn_rows.proofs.Counting.{counted}
use Rattle.cfn_rows.proofs.Tracing.{says_now, size_at}
use Rattle.cfn_rows.proofs.live.LiveSets.count.Goals as goal

pub returns : goal.returns
returns c =
    let x = c.args.x in
    let s = c.self.inside in
    let there : x < length s.places = omega (arith, c.requires, ap (λ v. length v.sizes) c.self.view_is, length-map s.places length) in
    let count : c.index.result.now ≡ get_or s.counts.items x 0 = get_or_read s.counts.items x c.index.result.now (omega (arith, there, c.self.invariant.counted)) c.index.ensures 0 in
    count
    ∙ counted (row_at s.values x) (row_at s.places x) s.past.events x (get_or s.counts.items x 0) (c.self.invariant.orders x there) (c.self.invariant.within x there) (λ a l. says_now s.places s.counts.items _ s.past.events c.self.invariant.traced x a there l)
    ∙ ap (live_below s.past.events x) (sym (size_at s.places x))
    ∙ ap (λ v. live_count v x) c.self.view_is

use Rattle.std.proofs.Common.{◌≡◌, ◌<◌, length, get_or, sym, ap, ◌∙◌, arith}
use Rattle.std.proofs.lemmas.List.{get_or_read, length-map}
use Rattle.std.specs.Prelude.{nat_lt}
use Rattle.cfn_rows.specs.Jagged.{row_at}
use Rattle.cfn_model.specs.Sums.{is_live}
use Rattle.cfn_rows.proofs.Tracing.{says_now, size_at}
use Rattle.cfn_rows.proofs.live.LiveSets.is_live.Goals as goal

pub returns : goal.returns
returns c =
    let x = c.args.x in
    let a = c.args.a in
    let s = c.self.inside in
    let there : x < length s.places = omega (arith, c.requires.variable, ap (λ v. length v.sizes) c.self.view_is, length-map s.places length) in
    let value : a < length (row_at s.places x) = omega (arith, c.requires.value, ap (λ v. get_or v.sizes x 0) c.self.view_is, size_at s.places x) in
    let count : c.index.result.now ≡ get_or s.counts.items x 0 = get_or_read s.counts.items x c.index.result.now (omega (arith, there, c.self.invariant.counted)) c.index.ensures 0 in
    ap (λ r. nat_lt (get_or r a 0) c.index.result.now) c.row.ensures
    ∙ ap (nat_lt (get_or (row_at s.places x) a 0)) count
    ∙ sym (says_now s.places s.counts.items _ s.past.events c.self.invariant.traced x a there value)
    ∙ ap (λ v. is_live v.history x a) c.self.view_is

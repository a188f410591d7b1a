use Rattle.std.proofs.Common.{◌≡◌, ◌∙◌, refl, sym, ap, subst, arith}
use mathlib.Core.Option.{some-injective}
use lib.ListN.{get_elem?}
use Rattle.cfn_low.specs.Holding.{price_of}
use Rattle.cfn_low.proofs.Sights.{one_keeps}
use Rattle.cfn_low.proofs.low.Low.end.Goals as goal

pub free-requires : goal.free-requires
free-requires g c = λ k below. absurd (omega (arith, below, c.close_with-closed.ensures.counts.1, c.self.invariant.2))

pub returns-clause-word : goal.returns-clause-word
returns-clause-word g c =
    let last = c.last.inside in
    let final = c.close_with-closed.ensures.values.2 in
    let s = final.0 in
    let seen = final.1 in
    let word = seen.0 in
    let v = last.seat.me.0 in
    let is = some-injective _ _ (sym c.word-word.ensures ∙ ap (λ l. get_elem? l 0) (sym final.2 ∙ word.1)) in
    let whole = ap (λ m. m.0.shares) c.last.invariant.2 in
    let now = ap (λ h. h.shares) c.last.view_is in
    let one = one_keeps c.self.inside.table.shared.key.upper word.0 s.views last.seat.id v word.2.each seen.1 (omega (arith, word.2.shares, whole, now, c.requires)) in
    let best = ap (λ m. m.0.best) c.last.invariant.2 in
    is ∙ word.2.least ∙ one ∙ best ∙ ap (price_of g.M.Incumbent.network) c.last.view_is

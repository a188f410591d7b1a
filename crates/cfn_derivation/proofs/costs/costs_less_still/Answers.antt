use Rattle.std.proofs.Common.{◌-◌, ◌<◌, sym, ap, subst, ◌∙◌, arith}
use Rattle.std.specs.Prelude.{slice_index, IsTrue}
use Rattle.cfn_model.specs.Network.{arity, variable_at}
use Rattle.cfn_model.specs.Sums.{is_live}
use Rattle.cfn_store.specs.Standing.{history}
use Rattle.cfn_derivation.proofs.Costing.{at_value, cheaper_is}
use Rattle.cfn_derivation.proofs.costs.costs_less_still.Goals as goal

pub least-requires : goal.least-requires
least-requires c =
    let s = c.args.store.now in let f = c.args.f in let j = 1 - c.args.place in let b = c.in-Some.last.now in
    let y = c.requires.other in
    let size = c.size.ensures ∙ ap (λ P. slice_index P.sizes c.args.y) c.network-2.ensures ∙ ap (slice_index s.network.sizes) y in
    let small : b < slice_index s.network.sizes (variable_at s.network f j) = (let l = c.if-last-size.false in omega (arith, l, size)) in
    let live = subst (λ v. IsTrue (is_live (history s) v b)) y (sym c.is_live.ensures ∙ c.if-not-is_live.false) in
    let place : j < arity s.network f = (let two = c.requires.two in omega (arith, two)) in (
      s.network,
      history s,
      f,
      c.args.place,
      c.args.value,
      j,
      at_value s.network (history s) f c.args.place c.args.value j b c.args.line.now c.requires.line c.requires.place.function place small live,
    )

pub returns : goal.returns
returns c = λ yes.
    (let s = c.args.store.now in let f = c.args.f in let j = 1 - c.args.place in let b = c.in-Some.last.now in
    let y = c.requires.other in
    let size = c.size.ensures ∙ ap (λ P. slice_index P.sizes c.args.y) c.network-2.ensures ∙ ap (slice_index s.network.sizes) y in
    let small : b < slice_index s.network.sizes (variable_at s.network f j) = (let l = c.if-last-size.false in omega (arith, l, size)) in
    let live = subst (λ v. IsTrue (is_live (history s) v b)) y (sym c.is_live.ensures ∙ c.if-not-is_live.false) in
    let place : j < arity s.network f = (let two = c.requires.two in omega (arith, two)) in
    cheaper_is s.network (history s) f c.args.place c.args.value j b c.args.q c.least.result
    (c.least.ensures s.network (history s) f c.args.place c.args.value j (at_value s.network (history s) f c.args.place c.args.value j b c.args.line.now c.requires.line c.requires.place.function place small live))
    (c.is_cheaper.ensures.yes yes))

use Rattle.std.proofs.Common.{◌≡◌, ◌≤◌, length, refl, sym, ap, ◌∙◌, subst, arith}
use Rattle.std.specs.Vec.{with_items}
use Rattle.std.proofs.lemmas.List.{with_items_is}
use Rattle.cfn_model.specs.Network.{Network, Fits, cost}
use Rattle.cfn_net.specs.Scoring.{Scoring}
use Rattle.cfn_dive.proofs.Alive.{some_choice, only_choices, choices_fit}
use Rattle.cfn_dive.proofs.Leaves.{is_leaf, goes_by_shifts}
use Rattle.cfn_dive.proofs.States.{seen_dear, concluded}
use Rattle.cfn_dive.proofs.parts.Parts.conclude.Goals as goal

pub take_values-requires-clause-some : goal.take_values-requires-clause-some
take_values-requires-clause-some g c = some_choice c.args.self.now.store c.args.growth.now.threshold c.requires.alive

pub fill-requires-clause-fits : goal.fill-requires-clause-fits
fill-requires-clause-fits g c =
    let old = c.args.self.now in
    let of = c.requires.expanding.kept.of in
    let values = c.take_values.new.values in
    let len : length values ≡ length old.store.network.sizes = c.take_values.ensures.same ∙ ap length c.deref_mut.ensures.value ∙ of.values in
    let same = c.deref.ensures.value ∙ with_items_is old.values values (len ∙ sym of.values ∙ sym old.values.ok.0) in
    subst (λ v. Fits c.args.network.now.sizes v) (sym same) (subst (λ (Q : Network). Fits Q.sizes values) (sym c.requires.network) (choices_fit old.store values len c.take_values.ensures.each))

pub shut-requires-clause-leaf : goal.shut-requires-clause-leaf
shut-requires-clause-leaf g c =
    let old = c.args.self.now in
    let P = old.store.network in
    let of = c.requires.expanding.kept.of in
    let values = c.take_values.new.values in
    let len : length values ≡ length P.sizes = c.take_values.ensures.same ∙ ap length c.deref_mut.ensures.value ∙ of.values in
    let same = c.deref.ensures.value ∙ with_items_is old.values values (len ∙ sym of.values ∙ sym old.values.ok.0) in
    let dear = seen_dear P old.offer.network _ c.lower-growth.result c.fill.new.self c.deref.result.now of.offer c.fill.ensures c.lower-growth.ensures.below in (
      values,
      is_leaf P old.store values c.lower-growth.result refl (choices_fit old.store values len c.take_values.ensures.each) (only_choices old.store values c.requires.decided c.take_values.ensures.each)
          (subst (λ v. c.lower-growth.result ≤ cost P v) same dear),
    )

pub close_here-requires-clause-expanding : goal.close_here-requires-clause-expanding
close_here-requires-clause-expanding g c =
    let old = c.args.self.now in
    let P = old.store.network in
    let of = c.requires.expanding.kept.of in
    let values = c.take_values.new.values in
    let len : length values ≡ length P.sizes = c.take_values.ensures.same ∙ ap length c.deref_mut.ensures.value ∙ of.values in
    let items = with_items_is old.values values (len ∙ sym of.values ∙ sym old.values.ok.0) in
    concluded P old c.args.growth.now c.args.leaf c.shut.new.store c.lower-growth.result (with_items old.values values) c.fill.new.self refl c.shut.ensures.shifts.network c.requires.expanding
    (goes_by_shifts old.store c.shut.new.store c.lower-growth.result c.shut.ensures.shifts)
    (let falls = c.lower-growth.ensures.falls in let at = c.requires.threshold in omega (arith, falls, at))
    (ap length items ∙ len)
    (ap (λ (b : Scoring). b.network) c.fill.ensures ∙ of.offer)

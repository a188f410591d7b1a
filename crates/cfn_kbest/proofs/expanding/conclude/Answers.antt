use Rattle.std.proofs.Common.{◌≡◌, length, sym, ap, ◌∙◌, subst, arith}
use Rattle.std.proofs.lemmas.List.{with_items_is}
use Rattle.cfn_model.specs.Network.{Network, Fits, cost}
use Rattle.cfn_model.specs.Tree.{CanClose}
use Rattle.cfn_store.specs.Standing.{history}
use Rattle.cfn_dive.proofs.CallerLemmas.{goes_by_shifts, only_choices, some_choice}
use Rattle.cfn_ranking.specs.Changes.{Leaves}
use Rattle.cfn_kbest.proofs.Expansions.{is_closed, is_found, taken_fit, taken_leaf}
use Rattle.cfn_kbest.proofs.expanding.conclude.Goals as goal

pub take_values-requires-clause-some : goal.take_values-requires-clause-some
take_values-requires-clause-some c =
    let s = c.args.parts.now.store in
    some_choice s c.args.threshold (subst (λ Q. CanClose Q (history s) c.args.threshold → ⊥) (sym c.requires.of.network) c.requires.alive)

pub cost-requires : goal.cost-requires
cost-requires c =
    let old = c.args.parts.now in
    let P = c.args.network.now in
    let values = c.take_values.new.values in
    let len : length values ≡ length old.store.network.sizes = c.take_values.ensures.same ∙ ap length c.deref_mut.ensures.value ∙ c.requires.of.values ∙ ap (λ (Q : Network). length Q.sizes) (sym c.requires.of.network) in
    let items = with_items_is old.values values (len ∙ ap (λ (Q : Network). length Q.sizes) c.requires.of.network ∙ sym c.requires.of.values ∙ sym old.values.ok.0) in
    subst (Fits P.sizes) (sym (c.deref.ensures.value ∙ items)) (taken_fit P old.store values c.requires.of.network len c.take_values.ensures.each)

pub shut-requires-clause-leaf : goal.shut-requires-clause-leaf
shut-requires-clause-leaf c =
    let old = c.args.parts.now in
    let P = c.args.network.now in
    let values = c.take_values.new.values in
    let len : length values ≡ length old.store.network.sizes = c.take_values.ensures.same ∙ ap length c.deref_mut.ensures.value ∙ c.requires.of.values ∙ ap (λ (Q : Network). length Q.sizes) (sym c.requires.of.network) in
    let items = with_items_is old.values values (len ∙ ap (λ (Q : Network). length Q.sizes) c.requires.of.network ∙ sym c.requires.of.values ∙ sym old.values.ok.0) in
    let price = c.value-cost.ensures.value ∙ c.cost.ensures.value ∙ ap (cost P) (c.deref.ensures.value ∙ items) in
    (values, taken_leaf P old.store values c.min-reached.result c.requires.of.network len c.requires.decided c.take_values.ensures.each (let m = c.min-reached.ensures in omega (arith, m, price)))

pub returns-then-cost-threshold-clause-expanded : goal.returns-then-cost-threshold-clause-expanded
returns-then-cost-threshold-clause-expanded c =
    let old = c.args.parts.now in
    let P = c.args.network.now in
    let s = c.shut.new.store in
    let k = c.args.threshold in
    let block = c.in_ok-block.block in
    let values = c.take_values.new.values in
    let len : length values ≡ length old.store.network.sizes = c.take_values.ensures.same ∙ ap length c.deref_mut.ensures.value ∙ c.requires.of.values ∙ ap (λ (Q : Network). length Q.sizes) (sym c.requires.of.network) in
    let items = with_items_is old.values values (len ∙ ap (λ (Q : Network). length Q.sizes) c.requires.of.network ∙ sym c.requires.of.values ∙ sym old.values.ok.0) in
    let price = c.value-cost.ensures.value ∙ c.cost.ensures.value ∙ ap (cost P) (c.deref.ensures.value ∙ items) in
    let reached = c.shut.ensures.closed in
    subst (λ v. Leaves P old.store.base k block (record { cost = c.value-cost.result; values = v })) (sym items)
    (is_found P old.store s k c.value-cost.result block values c.requires.of.network (goes_by_shifts old.store s k c.shut.ensures.shifts) c.requires.runs c.law_block_stays_tame.ensures c.in_ok-block.ensures
    (let m = c.min-reached.ensures in let less = c.if-cost-threshold.true in omega (arith, m, reached, less)) price c.if-cost-threshold.true c.requires.threshold
    (taken_fit P old.store values c.requires.of.network len c.take_values.ensures.each) (only_choices old.store values c.requires.decided c.take_values.ensures.each))

pub returns-else-cost-threshold-clause-expanded : goal.returns-else-cost-threshold-clause-expanded
returns-else-cost-threshold-clause-expanded c =
    let old = c.args.parts.now in
    let s = c.shut.new.store in
    let k = c.args.threshold in
    is_closed c.args.network.now old.store s k c.in_ok-block.block c.requires.of.network (goes_by_shifts old.store s k c.shut.ensures.shifts) c.requires.runs c.law_block_stays_tame.ensures c.in_ok-block.ensures
    (let m = c.min-reached.ensures in let reached = c.shut.ensures.closed in let more = c.if-cost-threshold.false in omega (arith, m, reached, more))

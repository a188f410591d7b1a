use Rattle.std.proofs.Common.{sym, ap, ◌∙◌, subst}
use Rattle.std.specs.Prelude.{slice_index, IsTrue}
use Rattle.cfn_model.specs.Sums.{is_live}
use Rattle.cfn_consistency.specs.Openness.{HasOpenPair}
use Rattle.cfn_consistency.specs.Consistency.{HasFullSupport}
use Rattle.cfn_incidence.specs.Places.{StandsAt}
use Rattle.cfn_store.specs.Standing.{history}
use Rattle.cfn_due.specs.Resting.{RestsAt}
use Rattle.cfn_edac.proofs.Gather.{other_at}
use Rattle.cfn_edac.proofs.Sure.{sure_rests, rests_at}
use Rattle.cfn_edac.proofs.resting.rests_on_wide.Goals as goal

pub wide_neighbour_at-requires : goal.wide_neighbour_at-requires
wide_neighbour_at-requires c = subst (λ y. StandsAt c.args.store.now.network y c.args.place) (sym c.requires.stands.is) c.requires.stands

pub has_full_support_at-requires-clause-open : goal.has_full_support_at-requires-clause-open
has_full_support_at-requires-clause-open c =
    let P = c.args.store.now.network in let h = history c.args.store.now in let neighbour = c.in-Some.ensures in
    subst (λ i. HasOpenPair P h c.args.place.function i c.in-Some.pair.other) neighbour.place (subst (λ f. HasOpenPair P h f c.in-Some.pair.place c.in-Some.pair.other) neighbour.function neighbour.both)

pub has_full_support_at-requires-clause-live : goal.has_full_support_at-requires-clause-live
has_full_support_at-requires-clause-live c = subst (λ y. IsTrue (is_live (history c.args.store.now) y c.args.value)) (sym c.requires.stands.is) c.requires.live

pub returns-then-is_sure-clause-rests : goal.returns-then-is_sure-clause-rests
returns-then-is_sure-clause-rests c = λ yes.
    (let s = c.args.store.now in let p = c.args.place in
    let sure = c.is_sure.ensures c.if-is_sure.true in
    let is = c.requires.value ∙ sym (ap (slice_index c.args.rests.now.values) c.requires.stands.is) in
    sure_rests s.network (history s) p c.args.value (subst (RestsAt s.network (history s) p.function p.place) (sym is) (c.requires.sure.rests p.function p.place sure.0 sure.1)))

pub returns-clause-rests : goal.returns-clause-rests
returns-clause-rests c = λ yes j both.
    (let P = c.args.store.now.network in let h = history c.args.store.now in let p = c.args.place in
    subst (λ k. HasFullSupport P h p.function p.place k c.args.value) (sym (other_at P h p c.in-Some.pair j c.in-Some.ensures both)) (c.has_full_support_at.ensures c.if-not-has_full_support_at.false))

pub returns-clause-sure : goal.returns-clause-sure
returns-clause-sure c =
    let s = c.args.store.now in let p = c.args.place in let neighbour = c.in-Some.ensures in
    let is = c.requires.value ∙ sym (ap (slice_index c.args.rests.now.values) c.requires.stands.is) in
    let pair = subst (λ i. HasOpenPair s.network (history s) p.function i c.in-Some.pair.other) neighbour.place (subst (λ f. HasOpenPair s.network (history s) f c.in-Some.pair.place c.in-Some.pair.other) neighbour.function neighbour.both) in
    c.rely.ensures.sure s.network (history s) c.requires.sure
    (subst (RestsAt s.network (history s) p.function p.place) is
    (rests_at s.network (history s) p c.args.value c.in-Some.pair.other pair (c.has_full_support_at.ensures c.if-not-has_full_support_at.false)))

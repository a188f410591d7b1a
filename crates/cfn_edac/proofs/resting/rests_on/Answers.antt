use Rattle.std.proofs.Common.{◌≡◌, ℕ, ◌-◌, ◌<◌, ◌≤◌, List, true≢false, sym, ap, ◌∙◌, subst, arith}
use Rattle.std.specs.Prelude.{slice_index, IsTrue}
use Rattle.cfn_model.specs.declared.step.Event.{Event}
use Rattle.cfn_model.specs.Network.{Network, arity, variable_at}
use Rattle.cfn_rows.specs.Sets.{live_count}
use Rattle.cfn_consistency.specs.Openness.{is_open}
use Rattle.cfn_consistency.specs.Consistency.{HasFullSupport}
use Rattle.cfn_store.specs.Rooms.{sets_of}
use Rattle.cfn_store.specs.Standing.{Standing, history}
use Rattle.cfn_incidence.specs.declared.incidence.Place.{Place}
use Rattle.cfn_incidence.specs.Places.{StandsAt}
use Rattle.cfn_incidence.proofs.CallerLemmas.{two_there}
use Rattle.cfn_edac.specs.Resting.{RestsOn}
use Rattle.cfn_due.specs.Resting.{RestsAt}
use Rattle.cfn_edac.proofs.Beside.{both_open, other_closed}
use Rattle.cfn_edac.proofs.Sure.{sure_rests, rests_at}
use Rattle.cfn_edac.proofs.resting.rests_on.Goals.{then-count-lt2-via-then-count-lt2, then-count-lt2-via-else-count-lt2+then-is_sure}
use Rattle.cfn_edac.proofs.resting.rests_on.Goals as goal

-- of two variables the other one is the only one to ask
of_two : (P : Network) (h : List Event) (p : Place) (a : ℕ) → arity P p.function ≡ 2 → (IsTrue (is_open P h (variable_at P p.function (1 - p.place))) → HasFullSupport P h p.function p.place (1 - p.place) a) → RestsOn P h p a
of_two P h p a two full = λ j pair.
    (let one = pair.one.0 in
    let other = pair.other.0 in
    let apart = pair.different in
    let e : 1 - p.place ≡ j = omega (arith, two, one, other, apart) in
    subst (λ k. HasFullSupport P h p.function p.place k a) e (full (subst (λ k. IsTrue (is_open P h (variable_at P p.function k))) (sym e) pair.other.1)))

-- the other variable is not open, as that at the place is: so there is one, and nothing is asked
closed_rests : (s : Standing) (x a count : ℕ) (p : Place) → StandsAt s.network x p → 2 ≤ live_count (sets_of s) x → count ≡ live_count (sets_of s) p.other → count < 2 → RestsOn s.network (history s) p a
closed_rests s x a count p at many is few = of_two s.network (history s) p a two (λ now. absurd (true≢false (sym now ∙ other_closed s x count p at two is few)))
  where
    two : arity s.network p.function ≡ 2
    two = two_there s.network x p at (λ e. (let same = ap (live_count (sets_of s)) e in omega (arith, same, is, few, many)))

pub returns-then-count-lt2-clause-rests : goal.returns-then-count-lt2-clause-rests
returns-then-count-lt2-clause-rests c = λ yes.
    (let s = c.args.store.now in let p = c.args.place in
    elim c.then-count-lt2.branch [
      | then-count-lt2-via-then-count-lt2 w ↦ closed_rests s c.args.x c.args.value c.count.result p c.requires.stands c.requires.open c.count.ensures w.if-count-lt2.true
      | then-count-lt2-via-else-count-lt2+then-is_sure w ↦ (let sure = w.is_sure.ensures w.if-is_sure.true in
          let is = c.requires.value ∙ sym (ap (slice_index c.args.rests.now.values) c.requires.stands.is) in
          sure_rests s.network (history s) p c.args.value (subst (RestsAt s.network (history s) p.function p.place) (sym is) (c.requires.sure.rests p.function p.place sure.0 sure.1)))
    ])

pub has_full_support-requires-clause-open : goal.has_full_support-requires-clause-open
has_full_support-requires-clause-open c =
    let many = c.if-count-lt2.false in
    both_open c.args.store.now c.args.x c.count.result c.args.place c.requires.stands c.if-place-x.false c.requires.open c.count.ensures (omega (arith, many))

pub returns-clause-rests : goal.returns-clause-rests
returns-clause-rests c = λ yes.
    of_two c.args.store.now.network (history c.args.store.now) c.args.place c.args.value (two_there c.args.store.now.network c.args.x c.args.place c.requires.stands c.if-place-x.false)
    (λ is. c.has_full_support.ensures c.if-not-has_full_support.false)

pub returns-clause-sure : goal.returns-clause-sure
returns-clause-sure c =
    let s = c.args.store.now in let p = c.args.place in
    let many = c.if-count-lt2.false in
    let is = c.requires.value ∙ sym (ap (slice_index c.args.rests.now.values) c.requires.stands.is) in
    c.rely.ensures.sure s.network (history s) c.requires.sure
    (subst (RestsAt s.network (history s) p.function p.place) is
    (rests_at s.network (history s) p c.args.value (1 - p.place) (both_open s c.args.x c.count.result p c.requires.stands c.if-place-x.false c.requires.open c.count.ensures (omega (arith, many)))
    (c.has_full_support.ensures c.if-not-has_full_support.false)))

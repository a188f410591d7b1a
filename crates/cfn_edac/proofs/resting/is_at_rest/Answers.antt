use Rattle.std.proofs.Common.{◌≡◌, ℕ, ◌<◌, ◌≤◌, Bool, true, true≢false, inl, inr, sym, ap, ◌∙◌, subst, length, arith}
use Rattle.std.proofs.lemmas.Bool.{cases_eq}
use Rattle.std.specs.Prelude.{List, pos, slice_index, IsTrue}
use Rattle.cfn_model.specs.declared.step.Event.{Event}
use Rattle.cfn_model.specs.Network.{Network, variable_at}
use Rattle.cfn_consistency.specs.Openness.{HasOpenPair, is_open}
use Rattle.cfn_consistency.specs.Consistency.{HasFullSupport, IsFree, IsExistential}
use Rattle.cfn_model.specs.Sums.{unary, is_live}
use Rattle.cfn_rows.specs.Sets.{live_count}
use Rattle.cfn_store.specs.Rooms.{sets_of}
use Rattle.cfn_dac.proofs.CallerLemmas.{is_closed_by}
use Rattle.cfn_incidence.specs.declared.incidence.Place.{Place}
use Rattle.cfn_incidence.specs.Places.{ArePlaces, place_at}
use Rattle.cfn_incidence.proofs.CallerLemmas.{place_found}
use Rattle.cfn_store.specs.Standing.{Standing, history}
use Rattle.cfn_edac.specs.Resting.{RestsOn}
use Rattle.cfn_edac.proofs.resting.is_at_rest.Goals as goal

-- a full support in each function at whose places a variable stands
all_supports : (P : Network) (h : List Event) (x a : ℕ) (places : List Place) (n : ℕ) → ArePlaces P x places → length places ≤ n → ((k : ℕ) → k < n → RestsOn P h (place_at places k) a)
    → (f i j : ℕ) → HasOpenPair P h f i j → variable_at P f i ≡ x → HasFullSupport P h f i j a
all_supports P h x a places n are whole rests f i j pair at =
    let there = place_found P x f i places are pair.one.0 at in
    let l = there.1 in
    subst (λ p. RestsOn P h p a) there.2 (rests there.0 (omega (arith, l, whole))) j pair

pub loop-place-preserved : goal.loop-place-preserved
loop-place-preserved c = record {
  rests = λ k l. (elim (cases_eq k c.loop-place.place-index) [
    | inl e ↦ subst (λ n. RestsOn c.args.store.now.network (history c.args.store.now) (place_at c.places-place-items.result.now n) c.value-value.result) (sym e) (c.rests_on.ensures.rests c.if-not-rests_on.false)
    | inr e ↦ c.loop-place.invariant.rests k (omega (arith, l, e))
  ]);
  sure = c.rests_on.ensures.sure;
  values = c.rests_on.ensures.values ∙ c.loop-place.invariant.values;
}

-- a live value without cost of a variable that is not open
closed_rests : (s : Standing) (x a count : ℕ) → IsFree s.network (history s) x a → count ≡ live_count (sets_of s) x → count < 2 → IsExistential s.network (history s) x
closed_rests s x a count free is few = record {
  value = a;
  free = free;
  supports = λ f i j pair at first. absurd (true≢false (sym (subst (λ z. IsTrue (is_open s.network (history s) z)) at pair.one.1) ∙ is_closed_by s x count is few));
}

-- the value that is looked at
free_value : (s : Standing) (x a size cost : ℕ) (live : Bool) → x < length s.network.sizes → size ≡ slice_index s.network.sizes x → a < size → live ≡ true → live ≡ is_live (history s) x a → cost ≤ 0 → (IsTrue (is_live (history s) x a) → pos cost ≡ unary s.network (history s) x a) → IsFree s.network (history s) x a
free_value s x a size cost live variable is below lives lives_is nothing cost_is =
    let now : IsTrue (is_live (history s) x a) = sym lives_is ∙ lives in
    let none : cost ≡ 0 = omega (arith, nothing) in
    record {
      value = record { variable = variable; value = omega (arith, is, below) };
      live = now;
      free = sym (cost_is now) ∙ ap pos none;
    }

pub returns-then-count-lt2-clause-existential : goal.returns-then-count-lt2-clause-existential
returns-then-count-lt2-clause-existential c = λ yes.
    (let s = c.args.store.now in
    closed_rests s c.args.x c.value-value.result c.count.result
    (free_value s c.args.x c.value-value.result c.size.result c.unary.result c.is_live.result c.requires.variable (c.size.ensures ∙ ap (λ (P : Network). slice_index P.sizes c.args.x) c.network-2.ensures) c.if-value-size.false c.if-not-is_live.false c.is_live.ensures c.if-unary-gt0.false c.unary.ensures)
    c.count.ensures c.if-count-lt2.true)

pub returns-clause-existential : goal.returns-clause-existential
returns-clause-existential c = λ yes.
    (let s = c.args.store.now in
    let free = free_value s c.args.x c.value-value.result c.size.result c.unary.result c.is_live.result c.requires.variable (c.size.ensures ∙ ap (λ (P : Network). slice_index P.sizes c.args.x) c.network-2.ensures) c.if-value-size.false c.if-not-is_live.false c.is_live.ensures c.if-unary-gt0.false c.unary.ensures in
    record {
      value = c.value-value.result;
      free = free;
      supports = λ f i j pair at first. all_supports s.network (history s) c.args.x c.value-value.result c.places-place-items.result.now c.loop-place.place-index (subst (λ N. ArePlaces N c.args.x c.places-place-items.result.now) c.requires.incidence c.places-place-items.ensures.places) c.loop-place-test.false c.loop-place.invariant.rests f i j pair at;
    })

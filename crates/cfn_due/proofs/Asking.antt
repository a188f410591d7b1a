-- At which places live values have supports, and what stays so.
use Rattle.std.proofs.Common.{◌≡◌, ◌⊎◌, ℕ, ◌+◌, ◌-◌, ◌*◌, ◌<◌, ◌≤◌, inl, inr, true, false, true≢false, List, [], ◌∷◌, ◌++◌, length, take, drop, slice_index_or, get_or-drop, refl, sym, ap, ◌∙◌, subst, arith}
use Rattle.std.proofs.lemmas.Bool.{and_parts, cases_eq}
use Rattle.std.proofs.lemmas.List.{take_more, take-append-drop, length-drop}
use Rattle.std.specs.Prelude.{not, IsTrue}
use Rattle.cfn_model.specs.declared.step.Step.{Step}
use Rattle.cfn_model.specs.declared.step.Event.{Event}
use Rattle.cfn_model.specs.declared.step.Decision.{Decision}
use Rattle.cfn_model.specs.declared.step.Event.TheVariants.{Did, Took, Refused}
use Rattle.cfn_model.specs.Decisions.{variable_of}
use Rattle.cfn_model.specs.Network.{Network, arity, variable_at}
use Rattle.cfn_model.specs.Sums.{removes, is_live}
use Rattle.cfn_model.specs.Steps.{after}
use Rattle.cfn_consistency.specs.Openness.{is_open, TakesPart}
use Rattle.cfn_consistency.specs.Consistency.{HasSupport, AreArcConsistent}
use Rattle.cfn_consistency.proofs.CallerLemmas.{count_most}
use Rattle.cfn_incidence.specs.declared.incidence.Place.{Place}
use Rattle.cfn_incidence.specs.Places.{ArePlaces, place_at}
use Rattle.cfn_incidence.proofs.CallerLemmas.{is_function, place_found}
use Rattle.cfn_scan.specs.Exact.{HasNoDebts, IsExactAlong}
use Rattle.cfn_due.specs.Going.{IsElsewhere, GoesSide, GoesWithOne}
use Rattle.cfn_due.proofs.Siding.{side_goes_on, side_goes_along}
use Rattle.cfn_due.proofs.Noting.{goes_split, after_joined}
use Rattle.cfn_due.specs.Marking.{is_marked, IsElseSame}
use Rattle.cfn_due.specs.Siding.{Siding, is_doubted, HasSupports, AreSupported, AreAsked, IsOtherAsked}

-- where all is in doubt
pub all_doubted : (P : Network) (history : List Event) (r : Siding) → r.size ≡ length P.functions → ((k : ℕ) → k < 2 * r.size → is_marked r.doubted k ≡ true) → AreSupported P history r
all_doubted P history r size all = record {
  size = size;
  each = λ f i l two known. absurd (let there = is_function P f 0 (omega (arith, two)) in true≢false (sym (all (2 * f + i) (omega (arith, l, there, size))) ∙ known));
}

-- where nothing is: a function of two variables takes part
pub two_take_part : (P : Network) (history : List Event) (f : ℕ) → arity P f ≡ 2 → TakesPart P history f
two_take_part P history f two = inl (record {
  function = is_function P f 0 (omega (arith, two));
  some = omega (arith, two);
  few = (let most = count_most (λ j. is_open P history (variable_at P f j)) (arity P f) in omega (arith, most, two));
})

pub none_doubted : (P : Network) (history : List Event) (k : ℕ) (r : Siding) → r.size ≡ length P.functions → AreArcConsistent P history k → AreSupported P history r
none_doubted P history k r size arcs = record {
  size = size;
  each = λ f i l two known a place live. arcs.functions f (two_take_part P history f two) i a place live;
}

-- doubts one after another
pub asked_none : (P : Network) (r : Siding) (Goes : ℕ → ℕ → Type 0) → ((f i : ℕ) → i < 2 → arity P f ≡ 2 → Goes f i → ⊥) → AreAsked P r r Goes
asked_none P r Goes none = record { size = refl; fewer = λ f i known. known; asked = λ f i l two goes known. none f i l two goes }

pub asked_then : (P : Network) (old middle new : Siding) (First Second Goes : ℕ → ℕ → Type 0) → AreAsked P old middle First → AreAsked P middle new Second → ((f i : ℕ) → Goes f i → First f i ⊎ Second f i) → AreAsked P old new Goes
asked_then P old middle new First Second Goes first second either = record {
  size = second.size ∙ first.size;
  fewer = λ f i known. first.fewer f i (second.fewer f i known);
  asked = λ f i l two goes known. (elim (either f i goes) [
    | inl one ↦ first.asked f i l two one (second.fewer f i known)
    | inr other ↦ second.asked f i l two other known
  ]);
}

pub asked_more : (P : Network) (old new : Siding) (Goes Others : ℕ → ℕ → Type 0) → AreAsked P old new Goes → ((f i : ℕ) → i < 2 → arity P f ≡ 2 → Others f i → Goes f i) → AreAsked P old new Others
asked_more P old new Goes Others asks more = record {
  size = asks.size;
  fewer = asks.fewer;
  asked = λ f i l two other known. asks.asked f i l two (more f i l two other) known;
}

-- the place beside one of the first of a variable's places
pub record IsBeside (places : List Place) (n f i : ℕ) : Type 0 where
  pub number : ℕ
  pub within : number < n
  pub place : (place_at places number).place < 2
  pub function : (place_at places number).function ≡ f
  pub other : 1 - (place_at places number).place ≡ i

pub beside_more : (P : Network) (old middle new : Siding) (x : ℕ) (places : List Place) (n : ℕ) → ArePlaces P x places → old.size ≡ length P.functions → n < length places → AreAsked P old middle (IsBeside places n) → IsOtherAsked middle new (place_at places n) → AreAsked P old new (IsBeside places (n + 1))
beside_more P old middle new x places n are size there first second = record {
  size = second.size ∙ first.size;
  fewer = λ f i known. first.fewer f i (second.fewer f i known);
  asked = asked;
}
  where
    asked : (f i : ℕ) → i < 2 → arity P f ≡ 2 → IsBeside places (n + 1) f i → is_doubted new f i ≡ false → ⊥
    asked f i l two is known = elim (cases_eq is.number n) [
      | inl last ↦ (let p = place_at places n in
          let place : p.place < 2 = subst (λ k. (place_at places k).place < 2) last is.place in
          let function : p.function ≡ f = subst (λ k. (place_at places k).function ≡ f) last is.function in
          let other : 1 - p.place ≡ i = subst (λ k. 1 - (place_at places k).place ≡ i) last is.other in
          let below = (are.stands n there).function in
          let same = first.size in
          let now = second.asked place (omega (arith, below, same, size)) in
          true≢false (sym (subst (λ g. is_doubted new g i ≡ true) function (subst (λ k. is_doubted new p.function k ≡ true) other now)) ∙ known))
      | inr other ↦ first.asked f i l two (record { number = is.number; within = (let w = is.within in omega (arith, w, other)); place = is.place; function = is.function; other = is.other }) (second.fewer f i known)
    ]

pub beside_all : (P : Network) (x : ℕ) (places : List Place) (n : ℕ) → ArePlaces P x places → length places ≤ n → (f i : ℕ) → i < 2 → arity P f ≡ 2 → IsElsewhere P x f i → IsBeside places n f i
beside_all P x places n are whole f i l two elsewhere =
    let j = elsewhere.0 in
    let below = elsewhere.1 in
    let apart = elsewhere.3 in
    let there = place_found P x f j places are below elsewhere.2 in
    let within = there.1 in
    let same = there.2 in
    let place : (place_at places there.0).place ≡ j = ap (λ (p : Place). p.place) same in
    record {
      number = there.0;
      within = omega (arith, within, whole);
      place = omega (arith, place, below, two);
      function = ap (λ (p : Place). p.function) same;
      other = omega (arith, place, below, two, apart, l);
    }

-- what an event did not put in doubt stays so over it, and over the steps of a block
pub supported_on : (P : Network) (history : List Event) (event : Event) (old new : Siding) → HasNoDebts P (event ∷ history) → AreAsked P old new (GoesSide P event) → AreSupported P history old → AreSupported P (event ∷ history) new
supported_on P history event old new debts asks was = record {
  size = asks.size ∙ was.size;
  each = λ f i l two known a place live.
      side_goes_on P history event f i a (is_function P f 0 (omega (arith, two))) debts (λ goes. asks.asked f i l two goes known) live
      (was.each f i l two (asks.fewer f i known) a place (and_parts (not (removes event (variable_at P f i) a)) (is_live history (variable_at P f i) a) live).1);
}

live_before : (history : List Event) (steps : List Step) (x a : ℕ) → IsTrue (is_live (after steps history) x a) → IsTrue (is_live history x a)
live_before history [] x a live = live
live_before history (step ∷ steps) x a live = (and_parts (not (removes (Did step) x a)) (is_live history x a) (live_before (Did step ∷ history) steps x a live)).1

abbrev pub GoesWithSteps : Network → List Step → ℕ → ℕ → Type 0
GoesWithSteps P steps f i = GoesWithOne (λ event j. GoesSide P event f j) steps i

pub supported_along : (P : Network) (block : List Step) (base : List Event) (start : ℕ) (old new : Siding) → IsExactAlong P (after block base) → AreAsked P old new (GoesWithSteps P (drop start block)) → AreSupported P (after (take start block) base) old → AreSupported P (after block base) new
supported_along P block base start old new exact asks was = record { size = asks.size ∙ was.size; each = each }
  where
    whole : after block base ≡ after (drop start block) (after (take start block) base)
    whole = ap (λ steps. after steps base) (sym (take-append-drop start block)) ∙ after_joined (take start block) (drop start block) base

    each : (f i : ℕ) → i < 2 → arity P f ≡ 2 → is_doubted new f i ≡ false → HasSupports P (after block base) f i
    each f i l two known a place live =
        let front = after (take start block) base in
        let now : IsTrue (is_live (after (drop start block) front) (variable_at P f i) a) = subst (λ h. IsTrue (is_live h (variable_at P f i) a)) whole live in
        let before = live_before front (drop start block) (variable_at P f i) a now in
        subst (λ h. HasSupport P h f i a) (sym whole)
        (side_goes_along P front (drop start block) f i a (is_function P f 0 (omega (arith, two))) (subst (IsExactAlong P) whole exact)
        (λ goes. asks.asked f i l two goes known) now (was.each f i l two (asks.fewer f i known) a place before))

-- along the steps of a block, one after another
pub side_steps_none : (P : Network) (r : Siding) (steps : List Step) (n : ℕ) → n ≡ 0 → AreAsked P r r (GoesWithSteps P (take n steps))
side_steps_none P r steps n none = subst (λ m. AreAsked P r r (GoesWithSteps P (take m steps))) (sym none) (asked_none P r (GoesWithSteps P []) (λ f i l two goes. goes))

pub side_steps_more : (P : Network) (block : List Step) (start i : ℕ) (step : Step) (old middle new : Siding) → start ≤ i → i < length block → slice_index_or block i step ≡ step → AreAsked P old middle (GoesWithSteps P (take (i - start) (drop start block))) → AreAsked P middle new (GoesSide P (Did step)) → AreAsked P old new (GoesWithSteps P (take (i + 1 - start) (drop start block)))
side_steps_more P block start i step old middle new from there is first second =
    let n = i - start in
    let more : n + 1 ≡ i + 1 - start = omega (arith, from) in
    let back : start + n ≡ i = omega (arith, from) in
    let long = length-drop start block in
    let at : slice_index_or (drop start block) n step ≡ step = get_or-drop start block n step ∙ ap (λ j. slice_index_or block j step) back ∙ is in
    let all : take (n + 1) (drop start block) ≡ take n (drop start block) ++ step ∷ [] =
    take_more (drop start block) n step (omega (arith, there, from, long)) ∙ ap (λ s. take n (drop start block) ++ s ∷ []) at in
    subst (λ m. AreAsked P old new (GoesWithSteps P (take m (drop start block)))) more
    (subst (λ steps. AreAsked P old new (GoesWithSteps P steps)) (sym all)
    (asked_then P old middle new (GoesWithSteps P (take n (drop start block))) (GoesSide P (Did step)) (GoesWithSteps P (take n (drop start block) ++ step ∷ [])) first second
    (λ f j goes. goes_split (λ event k. GoesSide P event f k) (take n (drop start block)) step j goes)))

-- the other place of a function is marked
pub other_asked : (old new : Siding) (p : Place) (k : ℕ) → new.size ≡ old.size → p.function < old.size → length old.doubted.stamps ≡ 2 * old.size → p.place < 2 → k ≡ 2 * p.function + (1 - p.place) → (k < length old.doubted.stamps → is_marked new.doubted k ≡ true) → IsElseSame old.doubted new.doubted k → IsOtherAsked old new p
other_asked old new p k size below long place is here others =
    let marked = here (omega (arith, is, below, long, place)) in
    record {
      size = size;
      fewer = λ f i known. (elim (cases_eq (2 * f + i) k) [
        | inl e ↦ absurd (true≢false (sym marked ∙ sym (ap (is_marked new.doubted) e) ∙ known))
        | inr other ↦ sym (others (2 * f + i) other) ∙ known
      ]);
      asked = λ l there. ap (is_marked new.doubted) (sym is) ∙ marked;
    }

-- a side of a split takes from its variable
pub asked_side : (P : Network) (event : Event) (d : Decision) (x : ℕ) (old new : Siding) → (event ≡ Took d) ⊎ (event ≡ Refused d) → x ≡ variable_of d → AreAsked P old new (IsElsewhere P x) → AreAsked P old new (GoesSide P event)
asked_side P event d x old new side at asks =
    let there = subst (λ v. AreAsked P old new (IsElsewhere P v)) at asks in
    elim side [
      | inl is ↦ subst (λ e. AreAsked P old new (GoesSide P e)) (sym is) there
      | inr is ↦ subst (λ e. AreAsked P old new (GoesSide P e)) (sym is) there
    ]

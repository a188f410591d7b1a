-- What is sure, what is put in doubt, and what stays so along steps.
use Rattle.std.proofs.Common.{◌≡◌, ◌⊎◌, ℕ, ◌+◌, ◌-◌, ◌*◌, ◌<◌, ◌≤◌, inl, inr, false, true≢false, List, [], ◌∷◌, ◌++◌, length, take, drop, slice_index, slice_index_or, slice_set, get_or-drop, get_or-set_other, refl, sym, ap, ◌∙◌, subst, arith}
use Rattle.std.proofs.lemmas.Bool.{cases_eq}
use Rattle.std.proofs.lemmas.List.{take_more, take-append-drop, length-drop}
use Rattle.std.specs.Prelude.{Bool, true, IsTrue}
use Rattle.cfn_model.specs.declared.step.Step.{Step}
use Rattle.cfn_model.specs.declared.step.Event.{Event}
use Rattle.cfn_model.specs.declared.step.Event.TheVariants.{Did}
use Rattle.cfn_model.specs.Network.{Network, IsNetwork, variable_at}
use Rattle.cfn_model.specs.Steps.{after}
use Rattle.cfn_consistency.specs.Openness.{is_open}
use Rattle.cfn_consistency.proofs.CallerLemmas.{later_open}
use Rattle.cfn_incidence.specs.declared.incidence.Place.{Place}
use Rattle.cfn_incidence.specs.Places.{ArePlaces, place_at}
use Rattle.cfn_incidence.proofs.CallerLemmas.{place_found}
use Rattle.cfn_scan.specs.Exact.{IsExactAlong}
use Rattle.cfn_due.specs.Going.{IsOn, GoesFull, GoesWithOne}
use Rattle.cfn_due.proofs.Staying.{full_goes_along}
use Rattle.cfn_due.proofs.Noting.{goes_split, after_joined}
use Rattle.cfn_due.specs.Marking.{is_marked, IsElseSame}
use Rattle.cfn_due.specs.Resting.{Resting, RestsAt, is_sure, AreSure, AreDoubted}

-- nothing is sure
pub none_sure : (P : Network) (history : List Event) (r : Resting) → ((k : ℕ) → is_marked r.sure k ≡ false) → AreSure P history r
none_sure P history r none = record { rests = λ f i l sure. absurd (true≢false (sym sure ∙ none (3 * f + i))) }

-- one more is sure
pub more_sure : (P : Network) (history : List Event) (old new : Resting) (f i : ℕ) → AreSure P history old → new.values ≡ old.values → IsElseSame old.sure new.sure (3 * f + i) → i < 3 → RestsAt P history f i (slice_index old.values (variable_at P f i)) → AreSure P history new
more_sure P history old new f i sure values same l is = record { rests = each }
  where
    each : (g j : ℕ) → j < 3 → IsTrue (is_sure new g j) → RestsAt P history g j (slice_index new.values (variable_at P g j))
    each g j m now = elim (cases_eq (3 * g + j) (3 * f + i)) [
      | inl e ↦ (let function : g ≡ f = omega (arith, e, l, m) in
          let place : j ≡ i = omega (arith, e, l, m) in
          let here = subst (λ v. RestsAt P history f i (slice_index v (variable_at P f i))) (sym values) is in
          subst (λ h. RestsAt P history h j (slice_index new.values (variable_at P h j))) (sym function) (subst (λ k. RestsAt P history f k (slice_index new.values (variable_at P f k))) (sym place) here))
      | inr other ↦ (let was = sure.rests g j m (sym (same (3 * g + j) other) ∙ now) in
          subst (λ v. RestsAt P history g j (slice_index v (variable_at P g j))) (sym values) was)
    ]

-- all three places of a function are in doubt
pub unmarked_all : (old first second new : Resting) (f : ℕ) → new.values ≡ old.values → is_marked first.sure (3 * f + 0) ≡ false → IsElseSame old.sure first.sure (3 * f + 0) → is_marked second.sure (3 * f + 1) ≡ false → IsElseSame first.sure second.sure (3 * f + 1) → is_marked new.sure (3 * f + 2) ≡ false → IsElseSame second.sure new.sure (3 * f + 2) → AreDoubted old new (λ g. f ≡ g)
unmarked_all old first second new f values none none_else one one_else two two_else = record {
  values = values;
  fewer = λ g i l sure. sym (none_else (3 * g + i) (not_none g i sure)) ∙ back_one g i sure;
  doubted = gone;
}
  where
    not_two : (g i : ℕ) → IsTrue (is_sure new g i) → 3 * g + i ≡ 3 * f + 2 → ⊥
    not_two g i sure e = true≢false (sym sure ∙ ap (is_marked new.sure) e ∙ two)

    back_two : (g i : ℕ) → IsTrue (is_sure new g i) → IsTrue (is_sure second g i)
    back_two g i sure = sym (two_else (3 * g + i) (not_two g i sure)) ∙ sure

    not_one : (g i : ℕ) → IsTrue (is_sure new g i) → 3 * g + i ≡ 3 * f + 1 → ⊥
    not_one g i sure e = true≢false (sym (back_two g i sure) ∙ ap (is_marked second.sure) e ∙ one)

    back_one : (g i : ℕ) → IsTrue (is_sure new g i) → IsTrue (is_sure first g i)
    back_one g i sure = sym (one_else (3 * g + i) (not_one g i sure)) ∙ back_two g i sure

    not_none : (g i : ℕ) → IsTrue (is_sure new g i) → 3 * g + i ≡ 3 * f + 0 → ⊥
    not_none g i sure e = true≢false (sym (back_one g i sure) ∙ ap (is_marked first.sure) e ∙ none)

    gone : (g i : ℕ) → i < 3 → f ≡ g → IsTrue (is_sure new g i) → ⊥
    gone g i l e sure = elim (cases_eq i 0) [
      | inl zero ↦ not_none g i sure (omega (arith, e, zero))
      | inr more ↦ (elim (cases_eq i 1) [
        | inl unit ↦ not_one g i sure (omega (arith, e, unit))
        | inr last ↦ not_two g i sure (omega (arith, e, l, more, last))
      ])
    ]

-- doubts one after another
pub doubted_none : (r : Resting) (Goes : ℕ → Type 0) → ((f i : ℕ) → i < 3 → Goes f → IsTrue (is_sure r f i) → ⊥) → AreDoubted r r Goes
doubted_none r Goes none = record { values = refl; fewer = λ f i l sure. sure; doubted = none }

pub doubted_then : (old middle new : Resting) (First Second Goes : ℕ → Type 0) → AreDoubted old middle First → AreDoubted middle new Second → ((f : ℕ) → Goes f → First f ⊎ Second f) → AreDoubted old new Goes
doubted_then old middle new First Second Goes first second either = record {
  values = second.values ∙ first.values;
  fewer = λ f i l sure. first.fewer f i l (second.fewer f i l sure);
  doubted = λ f i l goes sure. (elim (either f goes) [
    | inl one ↦ first.doubted f i l one (second.fewer f i l sure)
    | inr other ↦ second.doubted f i l other sure
  ]);
}

pub doubted_more : (old new : Resting) (Goes Others : ℕ → Type 0) → AreDoubted old new Goes → ((f : ℕ) → Others f → Goes f) → AreDoubted old new Others
doubted_more old new Goes Others doubts more = record { values = doubts.values; fewer = doubts.fewer; doubted = λ f i l other sure. doubts.doubted f i l (more f other) sure }

-- the functions of the first of a variable's places
abbrev pub IsAmong : List Place → ℕ → ℕ → Type 0
IsAmong places n f = (j : ℕ) × (j < n) × ((place_at places j).function ≡ f)

pub among_next : (places : List Place) (n f : ℕ) → IsAmong places (n + 1) f → IsAmong places n f ⊎ ((place_at places n).function ≡ f)
among_next places n f is = elim (cases_eq is.0 n) [
  | inl last ↦ inr (subst (λ j. (place_at places j).function ≡ f) last is.2)
  | inr other ↦ inl (is.0, (let l = is.1 in omega (arith, l, other)), is.2)
]

pub on_among : (P : Network) (x : ℕ) (places : List Place) (n : ℕ) → ArePlaces P x places → length places ≤ n → (f : ℕ) → IsOn P x f → IsAmong places n f
on_among P x places n are whole f on =
    let there = place_found P x f on.0 places are on.1 on.2 in
    (there.0, (let l = there.1 in omega (arith, l, whole)), ap (λ (p : Place). p.function) there.2)

-- another value for a variable of which nothing is sure
pub kept_sure : (P : Network) (history : List Event) (old middle : Resting) (x value : ℕ) → AreDoubted old middle (IsOn P x) → AreSure P history old → AreSure P history (record middle { values = slice_set middle.values x value })
kept_sure P history old middle x value doubts sure = record { rests = each }
  where
    each : (f i : ℕ) → i < 3 → IsTrue (is_sure (record middle { values = slice_set middle.values x value }) f i) → RestsAt P history f i (slice_index (slice_set middle.values x value) (variable_at P f i))
    each f i l now =
        let was = sure.rests f i l (doubts.fewer f i l now) in
        let other : x ≡ variable_at P f i → ⊥ = λ e. doubts.doubted f i l (i, was.place, sym e) now in
        let same : slice_index (slice_set middle.values x value) (variable_at P f i) ≡ slice_index old.values (variable_at P f i) =
        get_or-set_other middle.values x (variable_at P f i) value 0 (λ e. other (sym e)) ∙ ap (λ values. slice_index values (variable_at P f i)) doubts.values in
        subst (RestsAt P history f i) (sym same) was

pub doubted_sure : (P : Network) (history : List Event) (old new : Resting) (Goes : ℕ → Type 0) → AreDoubted old new Goes → AreSure P history old → AreSure P history new
doubted_sure P history old new Goes doubts sure = record {
  rests = λ f i l now. subst (λ values. RestsAt P history f i (slice_index values (variable_at P f i))) (sym doubts.values) (sure.rests f i l (doubts.fewer f i l now));
}

-- what is not open does not become so
closed_after : (P : Network) (history : List Event) (steps : List Step) (x : ℕ) → is_open P history x ≡ false → is_open P (after steps history) x ≡ false
closed_after P history [] x closed = closed
closed_after P history (step ∷ steps) x closed = closed_after P (Did step ∷ history) steps x (not_open (is_open P (Did step ∷ history) x) refl)
  where
    not_open : (b : Bool) → is_open P (Did step ∷ history) x ≡ b → is_open P (Did step ∷ history) x ≡ false
    not_open false is = is
    not_open true is = absurd (true≢false (sym (later_open P history (Did step) x is) ∙ closed))

-- what no step of a block put in doubt stays so behind it
pub sure_along : (P : Network) (block : List Step) (base : List Event) (start : ℕ) (old new : Resting) → IsNetwork P → IsExactAlong P (after block base) → AreDoubted old new (GoesWithOne (GoesFull P) (drop start block)) → AreSure P (after (take start block) base) old → AreSure P (after block base) new
sure_along P block base start old new net exact doubts sure = record { rests = each }
  where
    whole : after block base ≡ after (drop start block) (after (take start block) base)
    whole = ap (λ steps. after steps base) (sym (take-append-drop start block)) ∙ after_joined (take start block) (drop start block) base

    along : (f i a : ℕ) → (GoesWithOne (GoesFull P) (drop start block) f → ⊥) → RestsAt P (after (take start block) base) f i a → RestsAt P (after (drop start block) (after (take start block) base)) f i a
    along f i a stays was = record {
      function = was.function;
      place = was.place;
      other = was.other;
      other_place = was.other_place;
      full = full_goes_along P (after (take start block) base) (drop start block) f i was.other a net was.function was.other_place (subst (IsExactAlong P) whole exact) stays was.full;
      alone = λ k l not_one not_other. closed_after P (after (take start block) base) (drop start block) (variable_at P f k) (was.alone k l not_one not_other);
    }

    each : (f i : ℕ) → i < 3 → IsTrue (is_sure new f i) → RestsAt P (after block base) f i (slice_index new.values (variable_at P f i))
    each f i l now =
        subst (λ values. RestsAt P (after block base) f i (slice_index values (variable_at P f i))) (sym doubts.values)
        (subst (λ h. RestsAt P h f i (slice_index old.values (variable_at P f i))) (sym whole)
        (along f i (slice_index old.values (variable_at P f i)) (λ goes. doubts.doubted f i l goes now) (sure.rests f i l (doubts.fewer f i l now))))

-- along the steps of a block, one after another
pub steps_none : (P : Network) (r : Resting) (steps : List Step) (n : ℕ) → n ≡ 0 → AreDoubted r r (GoesWithOne (GoesFull P) (take n steps))
steps_none P r steps n none = subst (λ m. AreDoubted r r (GoesWithOne (GoesFull P) (take m steps))) (sym none) (doubted_none r (GoesWithOne (GoesFull P) []) (λ f i l goes sure. goes))

pub steps_more : (P : Network) (block : List Step) (start i : ℕ) (step : Step) (old middle new : Resting) → start ≤ i → i < length block → slice_index_or block i step ≡ step → AreDoubted old middle (GoesWithOne (GoesFull P) (take (i - start) (drop start block))) → AreDoubted middle new (GoesFull P (Did step)) → AreDoubted old new (GoesWithOne (GoesFull P) (take (i + 1 - start) (drop start block)))
steps_more P block start i step old middle new from there is first second =
    let n = i - start in
    let more : n + 1 ≡ i + 1 - start = omega (arith, from) in
    let back : start + n ≡ i = omega (arith, from) in
    let long = length-drop start block in
    let at : slice_index_or (drop start block) n step ≡ step = get_or-drop start block n step ∙ ap (λ j. slice_index_or block j step) back ∙ is in
    let all : take (n + 1) (drop start block) ≡ take n (drop start block) ++ step ∷ [] =
    take_more (drop start block) n step (omega (arith, there, from, long)) ∙ ap (λ s. take n (drop start block) ++ s ∷ []) at in
    subst (λ m. AreDoubted old new (GoesWithOne (GoesFull P) (take m (drop start block)))) more
    (subst (λ steps. AreDoubted old new (GoesWithOne (GoesFull P) steps)) (sym all)
    (doubted_then old middle new (GoesWithOne (GoesFull P) (take n (drop start block))) (GoesFull P (Did step)) (GoesWithOne (GoesFull P) (take n (drop start block) ++ step ∷ [])) first second
    (λ f goes. goes_split (GoesFull P) (take n (drop start block)) step f goes)))

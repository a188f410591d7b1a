-- What steps touch is listed.
use Rattle.std.proofs.Common.{◌≡◌, ◌⊎◌, ℕ, suc, zero, ◌+◌, ◌<◌, ◌≤◌, Bool, true, false, ◌&&◌, List, [], ◌∷◌, length, take, get_or, refl, sym, ap, ◌∙◌, subst, inl, inr, arith}
use Rattle.std.proofs.lemmas.Bool.{cases_eq, cases_Bool}
use Rattle.std.proofs.lemmas.Int.{ints}
use Rattle.std.specs.Prelude.{ℤ, pos, ◌+ℤ◌, ◌≤ℤ◌, neg_ℤ, slice_index, ◌==◌}
use Rattle.cfn_model.specs.declared.step.Step.{Step}
use Rattle.cfn_model.specs.declared.step.Step.TheVariants.{Project, Extend, Lift, CutValue, CutTuple}
use Rattle.cfn_model.specs.declared.step.Event.{Event}
use Rattle.cfn_model.specs.declared.step.Event.TheVariants.{Did}
use Rattle.cfn_model.specs.Network.{Network, variable_at}
use Rattle.cfn_model.specs.Sums.{when, unary, is_live}
use Rattle.cfn_model.specs.Steps.{InRange, after}
use Rattle.cfn_model.proofs.CallerLemmas.{eqb_other}
use Rattle.cfn_queue.specs.Waiting.{Waiting, is_in, with_item}
use Rattle.cfn_due.specs.Going.{IsOn, GoesArc}
use Rattle.cfn_due.proofs.CallerLemmas.{arc_goes_on}
use Rattle.cfn_incidence.specs.declared.incidence.Place.{Place}
use Rattle.cfn_incidence.specs.Places.{ArePlaces, place_at}
use Rattle.cfn_incidence.proofs.CallerLemmas.{place_found}
use Rattle.cfn_rows.specs.Sets.{AreLive}
use Rattle.cfn_scan.specs.Exact.{AllInPlace, HasNoDebts, IsExactAlong}
use Rattle.cfn_store.specs.Rooms.{sets_of}
use Rattle.cfn_store.specs.Standing.{Standing, history}
use Rattle.cfn_scan.proofs.CallerLemmas.{exact_here}
use Rattle.cfn_derivation.specs.Watched.{TouchedAre, CostlyAre, AreCostly, HasCostly, Rises, Grows}
use Rattle.cfn_derivation.proofs.Counting.{cut_fewer}
use Rattle.cfn_derivation.proofs.Going.{with_size, with_stays, with_has, with_only}

-- lists that grow
pub grows_none : (Goes : ℕ → Type 0) (queue : Waiting) → ((i : ℕ) → Goes i → ⊥) → Grows Goes queue queue
grows_none Goes queue none = record { size = refl; stays = λ i h. h; listed = λ i goes. absurd (none i goes) }

pub grows_one : (Goes : ℕ → Type 0) (queue new : Waiting) (x : ℕ) → new ≡ with_item queue x → ((i : ℕ) → Goes i → x ≡ i) → Grows Goes queue new
grows_one Goes queue new x e only = subst (Grows Goes queue) (sym e) (record {
  size = with_size queue x;
  stays = λ i h. with_stays queue x i h;
  listed = λ i goes. subst (λ j. is_in j (with_item queue x).items ≡ true) (only i goes) (with_has queue x);
})

pub grows_project : (P : Network) (step : Step) (f i a m x : ℕ) (old new : Waiting) → step ≡ Project f i a m → x ≡ variable_at P f i → new ≡ with_item old x → Grows (Rises P step) old new
grows_project P step f i a m x old new is at e = subst (λ s. Grows (Rises P s) old new) (sym is) (grows_one (Rises P (Project f i a m)) old new x e (λ y goes. at ∙ goes))

pub grows_others : (P : Network) (step : Step) (queue : Waiting) → ((f i a m : ℕ) → step ≡ Project f i a m → ⊥) → Grows (Rises P step) queue queue
grows_others P (Project f i a m) queue other = absurd (other f i a m refl)
grows_others P (Extend f i a m) queue other = grows_none (Rises P (Extend f i a m)) queue (λ i goes. goes)
grows_others P (Lift x m) queue other = grows_none (Rises P (Lift x m)) queue (λ i goes. goes)
grows_others P (CutValue x a) queue other = grows_none (Rises P (CutValue x a)) queue (λ i goes. goes)
grows_others P (CutTuple f c) queue other = grows_none (Rises P (CutTuple f c)) queue (λ i goes. goes)

-- the functions on a variable
abbrev pub IsAmong : List Place → ℕ → ℕ → Type 0
IsAmong places n f = (j : ℕ) × (j < n) × ((place_at places j).function ≡ f)

pub among_none : (places : List Place) (queue : Waiting) → Grows (IsAmong places 0) queue queue
among_none places queue = grows_none (IsAmong places 0) queue (λ f among. absurd (let h = among.1 in omega (arith, h)))

pub among_next : (places : List Place) (first old new : Waiting) (n : ℕ) → Grows (IsAmong places n) first old → new ≡ with_item old (place_at places n).function → Grows (IsAmong places (n + 1)) first new
among_next places first old new n grows e = subst (Grows (IsAmong places (n + 1)) first) (sym e) (record {
  size = with_size old (place_at places n).function ∙ grows.size;
  stays = λ i h. with_stays old (place_at places n).function i (grows.stays i h);
  listed = λ f among. elim (cases_eq among.0 n) [
    | inl same ↦ subst (λ g. is_in g (with_item old (place_at places n).function).items ≡ true) (ap (λ j. (place_at places j).function) (sym same) ∙ among.2) (with_has old (place_at places n).function)
    | inr other ↦ with_stays old (place_at places n).function f (grows.listed f (among.0, (let h = among.1 in omega (arith, h, other)), among.2))
  ];
})

pub among_end : (P : Network) (x : ℕ) (places : List Place) (old new : Waiting) (n : ℕ) → ArePlaces P x places → length places ≤ n → Grows (IsAmong places n) old new → Grows (IsOn P x) old new
among_end P x places old new n are all grows = record {
  size = grows.size;
  stays = grows.stays;
  listed = λ f on.
      (let found = place_found P x f on.0 places are on.1 on.2 in
      grows.listed f (found.0, (let h = found.1 in omega (arith, h, all)), ap (λ (p : Place). p.function) found.2));
}

-- what a step leaves as it was
not_both : (b : Bool) → b ≡ true → b ≡ false → ⊥
not_both true h k = absurd cc
not_both false h k = absurd cc

not_listed : (old new : List ℕ) (i : ℕ) → (is_in i old ≡ true → is_in i new ≡ true) → is_in i new ≡ false → is_in i old ≡ false
not_listed old new i stays none = elim (cases_Bool (is_in i old)) [
  | inl there ↦ absurd (not_both (is_in i new) (stays there) none)
  | inr apart ↦ apart
]

pub touched_on : (P : Network) (history : List Event) (step : Step) (old new : Waiting) → HasNoDebts P (Did step ∷ history) → Grows (GoesArc P (Did step)) old new → TouchedAre P history old.items → TouchedAre P (Did step ∷ history) new.items
touched_on P history step old new debts grows are f apart part =
    arc_goes_on P history (Did step) f debts (λ goes. not_both (is_in f new.items) (grows.listed f goes) apart) (are f (not_listed old.items new.items f (grows.stays f) apart)) part

-- a unary cost that is at least q was so, unless the step raises it
more_by : (b : Bool) (q m : ℕ) (u : ℤ) → pos q ≤ℤ (when b (neg_ℤ (pos m)) +ℤ u) → pos q ≤ℤ u
more_by true q m u h = omega (arith, ints, h)
more_by false q m u h = omega (arith, ints, h)

none_by : (q : ℕ) (u : ℤ) → pos q ≤ℤ (pos 0 +ℤ u) → pos q ≤ℤ u
none_by q u h = omega (arith, ints, h)

by_other : (b c : Bool) (q m : ℕ) (u : ℤ) → b ≡ false → pos q ≤ℤ (when (b && c) (pos m) +ℤ u) → pos q ≤ℤ u
by_other true c q m u e h = absurd cc
by_other false c q m u e h = omega (arith, ints, h)

was_high : (P : Network) (history : List Event) (step : Step) (q x a : ℕ) → (Rises P step x → ⊥) → pos q ≤ℤ unary P (Did step ∷ history) x a → pos q ≤ℤ unary P history x a
was_high P history (Project f i b m) q x a stays h = by_other (variable_at P f i == x) (b == a) q m (unary P history x a) (eqb_other (variable_at P f i) x stays) h
was_high P history (Extend f i b m) q x a stays h = more_by ((variable_at P f i == x) && (b == a)) q m (unary P history x a) h
was_high P history (Lift y m) q x a stays h = more_by (y == x) q m (unary P history x a) h
was_high P history (CutValue y b) q x a stays h = none_by q (unary P history x a) h
was_high P history (CutTuple f c) q x a stays h = none_by q (unary P history x a) h

was_live : (history : List Event) (step : Step) (x a : ℕ) → is_live (Did step ∷ history) x a ≡ true → is_live history x a ≡ true
was_live history (Project f i b m) x a live = live
was_live history (Extend f i b m) x a live = live
was_live history (Lift y m) x a live = live
was_live history (CutValue y b) x a live = cut_fewer history y b x a live
was_live history (CutTuple f c) x a live = live

pub costly_on : (P : Network) (history : List Event) (step : Step) (q : ℕ) (old new : Waiting) → Grows (Rises P step) old new → CostlyAre P history q old.items → CostlyAre P (Did step ∷ history) q new.items
costly_on P history step q old new grows are x a value live high = elim (cases_Bool (is_in x new.items)) [
  | inl there ↦ there
  | inr apart ↦ absurd (not_both (is_in x new.items)
      (grows.stays x (are x a value (was_live history step x a live) (was_high P history step q x a (λ rises. not_both (is_in x new.items) (grows.listed x rises) apart) high))) apart)
]

-- along a block
here_in_place : (P : Network) (steps : List Step) (history : List Event) → AllInPlace P (after steps history) → AllInPlace P history
here_in_place P [] history all = all
here_in_place P (step ∷ steps) history all = (here_in_place P steps (Did step ∷ history) all).1

pub step_in_range : (P : Network) (block : List Step) (base : List Event) (i : ℕ) (step : Step) → i < length block → AllInPlace P (after block base) → InRange P (get_or block i step)
step_in_range P [] base i step h all = absurd (omega (arith, h))
step_in_range P (first ∷ block) base zero step h all = (here_in_place P block (Did first ∷ base) all).0
step_in_range P (first ∷ block) base (suc i) step h all = step_in_range P block (Did first ∷ base) i step (omega (arith, h)) all

exact_before : (P : Network) (steps : List Step) (history : List Event) → IsExactAlong P (after steps history) → IsExactAlong P history
exact_before P [] history exact = exact
exact_before P (step ∷ steps) history exact = (exact_before P steps (Did step ∷ history) exact).1

exact_after : (P : Network) (block : List Step) (base : List Event) (n : ℕ) → IsExactAlong P (after block base) → IsExactAlong P (after (take n block) base)
exact_after P block base zero exact = exact_before P block base exact
exact_after P [] base (suc n) exact = exact
exact_after P (step ∷ block) base (suc n) exact = exact_after P block (Did step ∷ base) n exact

after_next : (block : List Step) (base : List Event) (i : ℕ) (step : Step) → i < length block → get_or block i step ≡ step → after (take (suc i) block) base ≡ Did step ∷ after (take i block) base
after_next [] base i step h is = absurd (omega (arith, h))
after_next (first ∷ block) base zero step h is = ap (λ s. Did s ∷ base) is
after_next (first ∷ block) base (suc i) step h is = after_next block (Did first ∷ base) i step (omega (arith, h)) is

pub next_after : (block : List Step) (base : List Event) (i : ℕ) (step : Step) → i < length block → get_or block i step ≡ step → after (take (i + 1) block) base ≡ Did step ∷ after (take i block) base
next_after block base i step h is = let e : suc i ≡ i + 1 = omega arith in subst (λ n. after (take n block) base ≡ Did step ∷ after (take i block) base) e (after_next block base i step h is)

pub debts_after : (P : Network) (block : List Step) (base : List Event) (i : ℕ) (step : Step) → i < length block → get_or block i step ≡ step → IsExactAlong P (after block base) → HasNoDebts P (Did step ∷ after (take i block) base)
debts_after P block base i step h is exact =
    subst (HasNoDebts P) (next_after block base i step h is) (exact_here P (after (take (i + 1) block) base) (exact_after P block base (i + 1) exact)).no_debts

pub whole_block : (block : List Step) (base : List Event) (n : ℕ) → length block ≤ n → after (take n block) base ≡ after block base
whole_block [] base zero h = refl
whole_block [] base (suc n) h = refl
whole_block (step ∷ block) base zero h = absurd (omega (arith, h))
whole_block (step ∷ block) base (suc n) h = whole_block block (Did step ∷ base) n (omega (arith, h))

-- costly values
abbrev pub NoneCostlyTo : Network → List Event → ℕ → ℕ → List ℕ → ℕ → Type 0
NoneCostlyTo P history q x values n = (j : ℕ) → j < n → pos q ≤ℤ unary P history x (slice_index values j) → ⊥

pub costly_next : (P : Network) (history : List Event) (q x : ℕ) (values : List ℕ) (n cost : ℕ) → NoneCostlyTo P history q x values n → pos cost ≡ unary P history x (slice_index values n) → cost < q → NoneCostlyTo P history q x values (n + 1)
costly_next P history q x values n cost none is less j h = elim (cases_eq j n) [
  | inl e ↦ λ high. reached cost q (unary P history x (slice_index values n)) is less (subst (λ k. pos q ≤ℤ unary P history x (slice_index values k)) e high)
  | inr d ↦ none j (omega (arith, h, d))
]
  where
    reached : (cost q : ℕ) (u : ℤ) → pos cost ≡ u → cost < q → pos q ≤ℤ u → ⊥
    reached cost q u is less high = absurd (omega (arith, ints, is, less, high))

pub costly_end : (s : Standing) (q x : ℕ) (values : List ℕ) (n : ℕ) → AreLive (sets_of s) x values → length values ≤ n → NoneCostlyTo s.network (history s) q x values n → HasCostly s.network (history s) q x → ⊥
costly_end s q x values n are all none has =
    let found = are.all has.value (record { variable = has.is.variable; value = has.is.value }) has.live in
    none found.0 (let h = found.1 in omega (arith, h, all)) (subst (λ a. pos q ≤ℤ unary s.network (history s) x a) (sym found.2) has.high)

-- a variable more is listed
pub listed_stay : (old new : Waiting) (x : ℕ) → new ≡ with_item old x → (y : ℕ) → is_in y old.items ≡ true → is_in y new.items ≡ true
listed_stay old new x e y h = ap (λ w. is_in y w.items) e ∙ with_stays old x y h

pub listed_has : (old new : Waiting) (x : ℕ) → new ≡ with_item old x → is_in x new.items ≡ true
listed_has old new x e = ap (λ w. is_in x w.items) e ∙ with_has old x

pub listed_only : (P : Network) (history : List Event) (q : ℕ) (old new : Waiting) (x : ℕ) → new ≡ with_item old x → HasCostly P history q x → AreCostly P history q old.items → AreCostly P history q new.items
listed_only P history q old new x e has only y h = elim (cases_eq y x) [
  | inl same ↦ subst (HasCostly P history q) (sym same) has
  | inr other ↦ only y (with_only old x y other (sym (ap (λ w. is_in y w.items) e) ∙ h))
]

pub listed_next : (Has : ℕ → Type 0) (old new : List ℕ) (x : ℕ) → ((y : ℕ) → y < x → Has y → is_in y old ≡ true) → ((y : ℕ) → is_in y old ≡ true → is_in y new ≡ true) → (Has x → is_in x new ≡ true) → (y : ℕ) → y < x + 1 → Has y → is_in y new ≡ true
listed_next Has old new x before stay here y h has = elim (cases_eq y x) [
  | inl same ↦ subst (λ z. is_in z new ≡ true) (sym same) (here (subst Has same has))
  | inr other ↦ stay y (before y (omega (arith, h, other)) has)
]

pub all_listed : (P : Network) (history : List Event) (q : ℕ) (costly : List ℕ) (n : ℕ) → length P.sizes ≤ n → ((y : ℕ) → y < n → HasCostly P history q y → is_in y costly ≡ true) → CostlyAre P history q costly
all_listed P history q costly n all listed x a value live high =
    listed x (let h = value.variable in omega (arith, h, all)) (record { value = a; is = value; live = live; high = high })

pub grows_change : (P : Network) (step : Step) (f : ℕ) (old new : Waiting) → new ≡ with_item old f → ((i : ℕ) × (a : ℕ) × (m : ℕ) × (step ≡ Extend f i a m)) ⊎ ((c : ℕ) × (step ≡ CutTuple f c)) → Grows (GoesArc P (Did step)) old new
grows_change P step f old new e (inl is) = subst (λ s. Grows (GoesArc P (Did s)) old new) (sym is.3) (grows_one (GoesArc P (Did (Extend f is.0 is.1 is.2))) old new f e (λ i goes. goes))
grows_change P step f old new e (inr is) = subst (λ s. Grows (GoesArc P (Did s)) old new) (sym is.1) (grows_one (GoesArc P (Did (CutTuple f is.0))) old new f e (λ i goes. goes))

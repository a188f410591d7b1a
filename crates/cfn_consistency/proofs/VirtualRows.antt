-- A small network whose propagation empties a variable, its plan, and what a cost less or a ban changes, as theorems that
-- compute.
use Rattle.std.proofs.Common.{length, ◌≡◌, ℕ, zero, suc, ◌<◌, ◌≤◌, inl, inr, List, [], ◌∷◌, true, false, refl, sym, subst, lit<, lit≤, arith}
use Rattle.std.proofs.lemmas.Int.{ints}
use Rattle.std.specs.Prelude.{codes, ℤ, pos, ◌<ℤ◌, ◌≤ℤ◌, ◌&&◌, ◌==◌, slice_index}
use Rattle.cfn_model.specs.declared.step.Step.{Step}
use Rattle.cfn_model.specs.declared.step.Step.TheVariants.{Project, Extend, Lift, CutValue}
use Rattle.cfn_model.specs.declared.step.Event.{Event}
use Rattle.cfn_model.specs.declared.step.Event.TheVariants.{Did}
use Rattle.cfn_model.specs.Network.{Network, Fits, arity, variable_at, dims_at}
use Rattle.cfn_model.specs.Sums.{unary, residual, is_live, is_live_tuple}
use Rattle.cfn_model.specs.Steps.{IsValue, IsPlace, CanProject, Run}
use Rattle.cfn_consistency.specs.declared.deletion.Reason.TheVariants.{Own, By}
use Rattle.cfn_consistency.specs.declared.deletion.Deletion.{Deletion}
use Rattle.cfn_consistency.specs.declared.deletion.Source.{Source}
use Rattle.cfn_consistency.specs.Openness.{TakesPart, open_count}
use Rattle.cfn_consistency.specs.Virtual.{Bans, without, IsDeletion, IsDerivation, IsEmptied, HasCheapTuple, IsClosedFamily, asked, DeletesBefore, IsNeeded, AreSources, IsPlan}
use Rattle.cfn_consistency.proofs.Rows.{row, all_pairs}

-- value 1 of the first variable costs so much; its value 0 excludes the value 0 of the second and of the third by 1, and
-- these two are not to have value 1 together
abbrev vac : ℕ → Network
vac cost = record { name = codes "vac"; sizes = 2 ∷ 2 ∷ 2 ∷ []; upper = 10; functions = row (0 ∷ []) (0 ∷ cost ∷ []) ∷ row (0 ∷ 1 ∷ []) (1 ∷ 0 ∷ 0 ∷ 0 ∷ []) ∷ row (0 ∷ 2 ∷ []) (1 ∷ 0 ∷ 0 ∷ 0 ∷ []) ∷ row (1 ∷ 2 ∷ []) (0 ∷ 0 ∷ 0 ∷ 1 ∷ []) ∷ [] }

-- that cost is the value's
abbrev begun : ℕ → List Event
begun cost = Did (Project 0 0 1 cost) ∷ []

abbrev none : Bans
none = record { own = λ x a. false; by = λ f i a. false }

abbrev first_banned : Bans
first_banned = record { own = λ x a. (x == 0) && (a == 1); by = λ f i a. false }

-- what propagation deletes
abbrev deletions : List Deletion
deletions =
    record { variable = 0; value = 1; reason = Own } ∷ record { variable = 1; value = 0; reason = By 1 1 } ∷ record { variable = 2; value = 0; reason = By 2 1 }
    ∷ record { variable = 1; value = 1; reason = By 3 0 } ∷ []

-- behind the first i of them
abbrev behind : ℕ → ℕ → List Event
behind cost zero = begun cost
behind cost (suc zero) = Did (CutValue 0 1) ∷ begun cost
behind cost (suc (suc zero)) = Did (CutValue 1 0) ∷ Did (CutValue 0 1) ∷ begun cost
behind cost (suc (suc (suc i))) = Did (CutValue 2 0) ∷ Did (CutValue 1 0) ∷ Did (CutValue 0 1) ∷ begun cost

reaches : (n m : ℕ) (z : ℤ) → z ≡ pos m → n ≤ m → pos n ≤ℤ z
reaches n m z e le = omega (arith, ints, e, le)

stays_below : (n m : ℕ) (z : ℤ) → z ≡ pos m → m < n → z <ℤ pos n
stays_below n m z e less = omega (arith, ints, e, less)

takes_part : (cost : ℕ) (f : ℕ) (history : List Event) → f < length (vac cost).functions → 0 < arity (vac cost) f → open_count (vac cost) history f ≤ 2 → TakesPart (vac cost) history f
takes_part cost f history h some few = inl (record { function = h; some = some; few = few })

no_flag : false ≡ true → ⊥
no_flag e = absurd cc

-- each live tuple with the value has a cost of 1, at both costs of the first value, 1 and 2
enough_1 : (cost : ℕ) → CanProject (vac cost) (behind cost 1) 1 1 0 1
enough_1 cost tuple fits =
    all_pairs (λ t. slice_index t 1 ≡ 0 → is_live_tuple (vac cost) (behind cost 1) 1 t ≡ true → pos 1 ≤ℤ residual (vac cost) (behind cost 1) 1 t)
    (λ at live. reaches 1 1 _ refl (lit≤ tt))
    (λ at live. absurd (omega (arith, at)))
    (λ at live. absurd (no_flag live))
    (λ at live. absurd (omega (arith, at)))
    tuple
    fits

enough_2 : (cost : ℕ) → CanProject (vac cost) (behind cost 2) 2 1 0 1
enough_2 cost tuple fits =
    all_pairs (λ t. slice_index t 1 ≡ 0 → is_live_tuple (vac cost) (behind cost 2) 2 t ≡ true → pos 1 ≤ℤ residual (vac cost) (behind cost 2) 2 t)
    (λ at live. reaches 1 1 _ refl (lit≤ tt))
    (λ at live. absurd (omega (arith, at)))
    (λ at live. absurd (no_flag live))
    (λ at live. absurd (omega (arith, at)))
    tuple
    fits

enough_3 : (cost : ℕ) → CanProject (vac cost) (behind cost 3) 3 0 1 1
enough_3 cost tuple fits =
    all_pairs (λ t. slice_index t 0 ≡ 1 → is_live_tuple (vac cost) (behind cost 3) 3 t ≡ true → pos 1 ≤ℤ residual (vac cost) (behind cost 3) 3 t)
    (λ at live. absurd (omega (arith, at)))
    (λ at live. absurd (omega (arith, at)))
    (λ at live. absurd (no_flag live))
    (λ at live. reaches 1 1 _ refl (lit≤ tt))
    tuple
    fits

pub vac_derives : (cost : ℕ) → 0 < cost → IsDerivation (vac cost) (begun cost) 1 none deletions
vac_derives cost some = (first, (second, (third, (last, tt))))
  where
    first : IsDeletion (vac cost) (begun cost) 1 none (record { variable = 0; value = 1; reason = Own })
    first = record { value = record { variable = lit< tt; value = lit< tt }; live = refl; reason = (refl, λ live. omega (arith, ints, some)) }

    second : IsDeletion (vac cost) (behind cost 1) 1 none (record { variable = 1; value = 0; reason = By 1 1 })
    second = record {
      value = record { variable = lit< tt; value = lit< tt };
      live = refl;
      reason = (refl, takes_part cost 1 (behind cost 1) (lit< tt) (lit< tt) (lit≤ tt), record { function = lit< tt; place = lit< tt; value = lit< tt }, refl, enough_1 cost);
    }

    third : IsDeletion (vac cost) (behind cost 2) 1 none (record { variable = 2; value = 0; reason = By 2 1 })
    third = record {
      value = record { variable = lit< tt; value = lit< tt };
      live = refl;
      reason = (refl, takes_part cost 2 (behind cost 2) (lit< tt) (lit< tt) (lit≤ tt), record { function = lit< tt; place = lit< tt; value = lit< tt }, refl, enough_2 cost);
    }

    last : IsDeletion (vac cost) (behind cost 3) 1 none (record { variable = 1; value = 1; reason = By 3 0 })
    last = record {
      value = record { variable = lit< tt; value = lit< tt };
      live = refl;
      reason = (refl, takes_part cost 3 (behind cost 3) (lit< tt) (lit< tt) (lit≤ tt), record { function = lit< tt; place = lit< tt; value = lit< tt }, refl, enough_3 cost);
    }

pub vac_empties_the_second : (cost : ℕ) → IsEmptied (vac cost) (without deletions (begun cost)) 1
vac_empties_the_second cost = (lit< tt, gone)
  where
    gone : (a : ℕ) → IsValue (vac cost) 1 a → is_live (without deletions (begun cost)) 1 a ≡ false
    gone zero is = refl
    gone (suc zero) is = refl
    gone (suc (suc a)) is = absurd (let h : suc (suc a) < 2 = is.value in omega (arith, h))

-- a ban is against the first deletion
yes_is_not_no : true ≡ false → ⊥
yes_is_not_no e = absurd cc

pub banned_derives_nothing_so : IsDerivation (vac 2) (begun 2) 1 first_banned deletions → ⊥
banned_derives_nothing_so is = yes_is_not_no is.0.reason.0

-- and a cost below q deletes nothing
pub vac_does_not_derive_at_3 : IsDerivation (vac 2) (begun 2) 3 none deletions → ⊥
vac_does_not_derive_at_3 is = no_more (is.0.reason.1 refl)
  where
    no_more : pos 3 ≤ℤ pos 2 → ⊥
    no_more h = absurd (omega (arith, ints, h))

-- the plan: each of the deleted values gathers what is asked of it, and the first value is asked for 2
abbrev plan : List Step
plan = Extend 1 0 1 1 ∷ Project 1 1 0 1 ∷ Extend 2 0 1 1 ∷ Project 2 1 0 1 ∷ Extend 3 1 0 1 ∷ Project 3 0 1 1 ∷ Lift 1 1 ∷ []

abbrev from : ℕ → ℕ → List Source
from place value = record { place = place; value = value } ∷ []

-- behind the cut of the sources each live tuple costs 1
gathered_1 : (cost : ℕ) → CanProject (vac cost) (Did (CutValue 0 1) ∷ begun cost) 1 1 0 1
gathered_1 cost = enough_1 cost

gathered_2 : (cost : ℕ) → CanProject (vac cost) (Did (CutValue 0 1) ∷ begun cost) 2 1 0 1
gathered_2 cost tuple fits =
    all_pairs (λ t. slice_index t 1 ≡ 0 → is_live_tuple (vac cost) (behind cost 1) 2 t ≡ true → pos 1 ≤ℤ residual (vac cost) (behind cost 1) 2 t)
    (λ at live. reaches 1 1 _ refl (lit≤ tt))
    (λ at live. absurd (omega (arith, at)))
    (λ at live. absurd (no_flag live))
    (λ at live. absurd (omega (arith, at)))
    tuple
    fits

gathered_3 : (cost : ℕ) → CanProject (vac cost) (Did (CutValue 2 0) ∷ begun cost) 3 0 1 1
gathered_3 cost tuple fits =
    all_pairs (λ t. slice_index t 0 ≡ 1 → is_live_tuple (vac cost) (Did (CutValue 2 0) ∷ begun cost) 3 t ≡ true → pos 1 ≤ℤ residual (vac cost) (Did (CutValue 2 0) ∷ begun cost) 3 t)
    (λ at live. absurd (omega (arith, at)))
    (λ at live. absurd (omega (arith, at)))
    (λ at live. absurd (no_flag live))
    (λ at live. reaches 1 1 _ refl (lit≤ tt))
    tuple
    fits

-- each source is needed: the other tuple with its value costs nothing
needed : (cost f i a j b x y : ℕ) (earlier : List Deletion) → dims_at (vac cost) f ≡ 2 ∷ 2 ∷ [] → x < 2 → y < 2 → slice_index (x ∷ y ∷ []) i ≡ a → slice_index (x ∷ y ∷ []) j ≡ b → is_live_tuple (vac cost) (begun cost) f (x ∷ y ∷ []) ≡ true
    → residual (vac cost) (begun cost) f (x ∷ y ∷ []) ≡ pos 0
    → ((n : ℕ) → n < arity (vac cost) f → DeletesBefore earlier (variable_at (vac cost) f n) (slice_index (x ∷ y ∷ []) n) (variable_at (vac cost) f j) b → ⊥) → IsNeeded (vac cost) (begun cost) 1 f i a earlier (record { place = j; value = b })
needed cost f i a j b x y earlier sizes low high at has live free first = record {
  cheap = record { tuple = x ∷ y ∷ []; fits = subst (λ d. Fits d (x ∷ y ∷ [])) (sym sizes) (low, (high, tt)); at = at; live = live; cheap = stays_below 1 0 _ free (lit< tt) };
  value = has;
  first = first;
}

pub vac_plan : (cost : ℕ) → IsPlan (vac cost) (begun cost) 1 deletions 1 plan
vac_plan cost = (
  _,
  inr (lit< tt, (from 1 0, sources_3, refl)),
  (
    _,
    inr (lit< tt, (from 0 1, sources_2, refl)),
    (
      _,
      inr (lit< tt, (from 0 1, sources_1, refl)),
      (_, refl, refl),
    ),
  ),
)
  where
    earlier_1 : List Deletion
    earlier_1 = record { variable = 0; value = 1; reason = Own } ∷ []

    earlier_2 : List Deletion
    earlier_2 = record { variable = 1; value = 0; reason = By 1 1 } ∷ earlier_1

    earlier_3 : List Deletion
    earlier_3 = record { variable = 2; value = 0; reason = By 2 1 } ∷ earlier_2

    first_1 : (n : ℕ) → n < 2 → DeletesBefore earlier_1 (variable_at (vac cost) 1 n) (slice_index (1 ∷ 0 ∷ []) n) 0 1 → ⊥
    first_1 n h is = grind (arith, h, is)

    first_2 : (n : ℕ) → n < 2 → DeletesBefore earlier_2 (variable_at (vac cost) 2 n) (slice_index (1 ∷ 0 ∷ []) n) 0 1 → ⊥
    first_2 n h is = grind (arith, h, is)

    first_3 : (n : ℕ) → n < 2 → DeletesBefore earlier_3 (variable_at (vac cost) 3 n) (slice_index (1 ∷ 0 ∷ []) n) 2 0 → ⊥
    first_3 n h is = grind (arith, h, is)

    sources_3 : AreSources (vac cost) (begun cost) 1 3 0 1 earlier_3 (from 1 0)
    sources_3 = record { are = (record { function = lit< tt; place = lit< tt; value = lit< tt }, λ e. absurd (omega (arith, e)), inl (refl, refl), needed cost 3 0 1 1 0 1 0 earlier_3 refl (lit< tt) (lit< tt) refl refl refl refl first_3, tt); enough = gathered_3 cost }

    sources_2 : AreSources (vac cost) (begun cost) 1 2 1 0 earlier_2 (from 0 1)
    sources_2 = record { are = (record { function = lit< tt; place = lit< tt; value = lit< tt }, λ e. absurd (omega (arith, e)), inr (inl (refl, refl)), needed cost 2 1 0 0 1 1 0 earlier_2 refl (lit< tt) (lit< tt) refl refl refl refl first_2, tt); enough = gathered_2 cost }

    sources_1 : AreSources (vac cost) (begun cost) 1 1 1 0 earlier_1 (from 0 1)
    sources_1 = record { are = (record { function = lit< tt; place = lit< tt; value = lit< tt }, λ e. absurd (omega (arith, e)), inl (refl, refl), needed cost 1 1 0 0 1 1 0 earlier_1 refl (lit< tt) (lit< tt) refl refl refl refl first_1, tt); enough = gathered_1 cost }

-- a value whose tuple costs 1 is no source beside one that suffices, whatever was deleted before
pub vac_needs_no_more : (cost : ℕ) (earlier : List Deletion) → AreSources (vac cost) (begun cost) 1 3 0 1 earlier (record { place = 1; value = 1 } ∷ from 1 0) → ⊥
vac_needs_no_more cost earlier is =
    let history = Did (CutValue 2 0) ∷ begun cost in
    let has = is.are.3 in
    let t = has.cheap in
    all_pairs (λ tuple. slice_index tuple 0 ≡ 1 → slice_index tuple 1 ≡ 1 → residual (vac cost) history 3 tuple <ℤ pos 1 → ⊥)
    (λ at value cheap. absurd (omega (arith, at)))
    (λ at value cheap. absurd (omega (arith, at)))
    (λ at value cheap. absurd (omega (arith, value)))
    (λ at value cheap. not_below _ refl cheap)
    t.tuple
    t.fits
    t.at
    has.value
    t.cheap
  where
    not_below : (z : ℤ) → z ≡ pos 1 → z <ℤ pos 1 → ⊥
    not_below z e less = absurd (omega (arith, ints, e, less))

-- nor is one before which another value of its tuple was deleted
pub vac_takes_the_first : (cost : ℕ) → IsNeeded (vac cost) (begun cost) 1 3 0 1 (record { variable = 2; value = 0; reason = Own } ∷ record { variable = 1; value = 1; reason = Own } ∷ []) (record { place = 1; value = 0 }) → ⊥
vac_takes_the_first cost is = is.first 0 (lit< tt) (inl (refl, refl, inl (refl, sym is.cheap.at)))

pub vac_asks_2 : (cost : ℕ) → asked (vac cost) plan 0 1 ≡ 2
vac_asks_2 cost = refl

-- so it runs where the value costs 2, and by no factor of 1 or more where it costs 1
pub vac_plan_does_not_run_at_1 : Run (vac 1) (begun 1) plan 10 → ⊥
vac_plan_does_not_run_at_1 runs = no_more (runs.1.1.0.2 refl)
  where
    no_more : pos 1 ≤ℤ pos 0 → ⊥
    no_more h = absurd (omega (arith, ints, h))

-- where the first value is banned, or q is 3, what is live is a closed family before any deletion
abbrev each_place : (Q : ℕ → ℕ → ℕ → Type 0) → Type 0
each_place Q = (Q 0 0 0 × Q 0 0 1) × (Q 1 0 0 × Q 1 0 1 × Q 1 1 0 × Q 1 1 1) × (Q 2 0 0 × Q 2 0 1 × Q 2 1 0 × Q 2 1 1) × (Q 3 0 0 × Q 3 0 1 × Q 3 1 0 × Q 3 1 1)

two_places : (Q : ℕ → ℕ → Type 0) → (Q 0 0 × Q 0 1 × Q 1 0 × Q 1 1) → (i a : ℕ) → i < 2 → a < 2 → Q i a
two_places Q is zero zero h k = is.0
two_places Q is zero (suc zero) h k = is.1
two_places Q is (suc zero) zero h k = is.2
two_places Q is (suc zero) (suc zero) h k = is.3
two_places Q is zero (suc (suc a)) h k = absurd (omega arith)
two_places Q is (suc zero) (suc (suc a)) h k = absurd (omega arith)
two_places Q is (suc (suc i)) a h k = absurd (omega arith)

two_values : (i a : ℕ) → i < 2 → a < slice_index (2 ∷ 2 ∷ []) i → a < 2
two_values zero a h k = k
two_values (suc zero) a h k = k
two_values (suc (suc i)) a h k = absurd (omega (arith, h))

places : (Q : ℕ → ℕ → ℕ → Type 0) → each_place Q → (f i a : ℕ) → IsPlace (vac 2) f i a → Q f i a
places Q is zero zero zero place = is.0.0
places Q is zero zero (suc zero) place = is.0.1
places Q is zero zero (suc (suc a)) place = absurd (let h : suc (suc a) < 2 = place.value in omega (arith, h))
places Q is zero (suc i) a place = absurd (let h : suc i < 1 = place.place in omega (arith, h))
places Q is (suc zero) i a place = two_places (Q 1) is.1 i a place.place (two_values i a place.place place.value)
places Q is (suc (suc zero)) i a place = two_places (Q 2) is.2 i a place.place (two_values i a place.place place.value)
places Q is (suc (suc (suc zero))) i a place = two_places (Q 3) is.3 i a place.place (two_values i a place.place place.value)
places Q is (suc (suc (suc (suc f)))) i a place = absurd (let h : suc (suc (suc (suc f))) < 4 = place.function in omega (arith, h))

cheap : (q f i a : ℕ) → 0 < q → (tuple : List ℕ) → Fits (dims_at (vac 2) f) tuple → slice_index tuple i ≡ a → is_live_tuple (vac 2) (begun 2) f tuple ≡ true → residual (vac 2) (begun 2) f tuple ≡ pos 0
    → HasCheapTuple (vac 2) (begun 2) f i a q
cheap q f i a some tuple fits at live free = record { tuple = tuple; fits = fits; at = at; live = live; cheap = stays_below q 0 _ free some }

vac_tuples : (q : ℕ) → 0 < q → each_place (λ f i a. HasCheapTuple (vac 2) (begun 2) f i a q)
vac_tuples q some = (
  (cheap q 0 0 0 some (0 ∷ []) (lit< tt, tt) refl refl refl, cheap q 0 0 1 some (1 ∷ []) (lit< tt, tt) refl refl refl),
  (pair 1 0 0 0 1 (lit< tt) (lit< tt) refl refl refl refl, pair 1 0 1 1 0 (lit< tt) (lit< tt) refl refl refl refl, pair 1 1 0 1 0 (lit< tt) (lit< tt) refl refl refl refl, pair 1 1 1 0 1 (lit< tt) (lit< tt) refl refl refl refl),
  (pair 2 0 0 0 1 (lit< tt) (lit< tt) refl refl refl refl, pair 2 0 1 1 0 (lit< tt) (lit< tt) refl refl refl refl, pair 2 1 0 1 0 (lit< tt) (lit< tt) refl refl refl refl, pair 2 1 1 0 1 (lit< tt) (lit< tt) refl refl refl refl),
  (pair 3 0 0 0 0 (lit< tt) (lit< tt) refl refl refl refl, pair 3 0 1 1 0 (lit< tt) (lit< tt) refl refl refl refl, pair 3 1 0 0 0 (lit< tt) (lit< tt) refl refl refl refl, pair 3 1 1 0 1 (lit< tt) (lit< tt) refl refl refl refl),
)
  where
    pair : (f i a x y : ℕ) → x < 2 → y < 2 → dims_at (vac 2) f ≡ 2 ∷ 2 ∷ [] → slice_index (x ∷ y ∷ []) i ≡ a → is_live_tuple (vac 2) (begun 2) f (x ∷ y ∷ []) ≡ true
        → residual (vac 2) (begun 2) f (x ∷ y ∷ []) ≡ pos 0 → HasCheapTuple (vac 2) (begun 2) f i a q
    pair f i a x y low high sizes at live free = cheap q f i a some (x ∷ y ∷ []) (subst (λ d. Fits d (x ∷ y ∷ [])) (sym sizes) (low, (high, tt))) at live free

each_value : (Q : ℕ → ℕ → Type 0) → (Q 0 0 × Q 0 1 × Q 1 0 × Q 1 1 × Q 2 0 × Q 2 1) → (x a : ℕ) → IsValue (vac 2) x a → Q x a
each_value Q is zero zero value = is.0
each_value Q is zero (suc zero) value = is.1
each_value Q is (suc zero) zero value = is.2
each_value Q is (suc zero) (suc zero) value = is.3
each_value Q is (suc (suc zero)) zero value = is.4
each_value Q is (suc (suc zero)) (suc zero) value = is.5
each_value Q is zero (suc (suc a)) value = absurd (let h : suc (suc a) < 2 = value.value in omega (arith, h))
each_value Q is (suc zero) (suc (suc a)) value = absurd (let h : suc (suc a) < 2 = value.value in omega (arith, h))
each_value Q is (suc (suc zero)) (suc (suc a)) value = absurd (let h : suc (suc a) < 2 = value.value in omega (arith, h))
each_value Q is (suc (suc (suc x))) a value = absurd (let h : suc (suc (suc x)) < 3 = value.variable in omega (arith, h))

first_live : (x : ℕ) → x < 3 → (a : ℕ) × IsValue (vac 2) x a × (is_live (begun 2) x a ≡ true)
first_live zero h = (0, record { variable = lit< tt; value = lit< tt }, refl)
first_live (suc zero) h = (0, record { variable = lit< tt; value = lit< tt }, refl)
first_live (suc (suc zero)) h = (0, record { variable = lit< tt; value = lit< tt }, refl)
first_live (suc (suc (suc x))) h = absurd (omega (arith, h))

pub banned_is_closed : IsClosedFamily (vac 2) (begun 2) 1 first_banned
banned_is_closed = record {
  some = first_live;
  own = each_value (λ x a. is_live (begun 2) x a ≡ true → first_banned.own x a ≡ false → unary (vac 2) (begun 2) x a <ℤ pos 1)
      (free, (λ live unbanned. absurd (yes_is_not_no unbanned)), free, free, free, free);
  by = λ f i a part place live unbanned. places (λ f i a. HasCheapTuple (vac 2) (begun 2) f i a 1) (vac_tuples 1 (lit< tt)) f i a place;
}
  where
    free : true ≡ true → false ≡ false → pos 0 <ℤ pos 1
    free live unbanned = stays_below 1 0 _ refl (lit< tt)

pub vac_is_closed_at_3 : IsClosedFamily (vac 2) (begun 2) 3 none
vac_is_closed_at_3 = record {
  some = first_live;
  own = each_value (λ x a. is_live (begun 2) x a ≡ true → none.own x a ≡ false → unary (vac 2) (begun 2) x a <ℤ pos 3)
      (free, (λ live unbanned. stays_below 3 2 _ refl (lit< tt)), free, free, free, free);
  by = λ f i a part place live unbanned. places (λ f i a. HasCheapTuple (vac 2) (begun 2) f i a 3) (vac_tuples 3 (lit< tt)) f i a place;
}
  where
    free : true ≡ true → false ≡ false → pos 0 <ℤ pos 3
    free live unbanned = stays_below 3 0 _ refl (lit< tt)

-- with no ban it is none at 1, nor what is left behind the first deletion
pub vac_is_not_closed_at_1 : IsClosedFamily (vac 2) (begun 2) 1 none → ⊥
vac_is_not_closed_at_1 is = no_less (is.own 0 1 (record { variable = lit< tt; value = lit< tt }) refl refl)
  where
    no_less : pos 2 <ℤ pos 1 → ⊥
    no_less h = absurd (omega (arith, ints, h))

pub first_deletion_closes_nothing : IsClosedFamily (vac 2) (behind 2 1) 1 none → ⊥
first_deletion_closes_nothing is =
    let has = is.by 1 1 0 (takes_part 2 1 (behind 2 1) (lit< tt) (lit< tt) (lit≤ tt)) (record { function = lit< tt; place = lit< tt; value = lit< tt }) refl refl in
    less (residual (vac 2) (behind 2 1) 1 has.tuple) has.cheap (enough_1 2 has.tuple has.fits has.at has.live)
  where
    less : (z : ℤ) → z <ℤ pos 1 → pos 1 ≤ℤ z → ⊥
    less z h k = absurd (omega (arith, ints, h, k))

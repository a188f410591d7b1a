-- Steps on variables of two values are decided by trying each value and tuple.
use Rattle.std.proofs.Common.{◌≡◌, ℕ, zero, suc, ◌<◌, Bool, true, false, not, ◌&&◌, ◌||◌, T, List, [], ◌∷◌, refl, sym, subst, arith}
use Rattle.std.proofs.lemmas.Bool.{eq-eqb, and_parts}
use Rattle.std.specs.Prelude.{ℤ, pos, ◌+ℤ◌, ◌≤ℤ◌, int_le, ◌==◌, slice_index}
use Rattle.cfn_model.specs.declared.step.Event.{Event}
use Rattle.cfn_model.specs.Network.{Network, Fits, cell, dims_at}
use Rattle.cfn_model.specs.Sums.{floor, unary, residual, is_live, is_live_tuple}
use Rattle.cfn_model.specs.Steps.{CanProject, CanLift, CanCutTuple}

-- the tuples of two variables of two values
pub all_pairs : (Q : List ℕ → Type 0) → Q (0 ∷ 0 ∷ []) → Q (0 ∷ 1 ∷ []) → Q (1 ∷ 0 ∷ []) → Q (1 ∷ 1 ∷ []) → (tuple : List ℕ) → Fits (2 ∷ 2 ∷ []) tuple → Q tuple
all_pairs Q a b c d [] fits = absurd fits
all_pairs Q a b c d (x ∷ []) fits = absurd fits.1
all_pairs Q a b c d (zero ∷ zero ∷ []) fits = a
all_pairs Q a b c d (zero ∷ suc zero ∷ []) fits = b
all_pairs Q a b c d (suc zero ∷ zero ∷ []) fits = c
all_pairs Q a b c d (suc zero ∷ suc zero ∷ []) fits = d
all_pairs Q a b c d (suc (suc x) ∷ y ∷ []) fits = absurd (omega (arith, fits.0))
all_pairs Q a b c d (zero ∷ suc (suc y) ∷ []) fits = absurd (omega (arith, fits.1.0))
all_pairs Q a b c d (suc zero ∷ suc (suc y) ∷ []) fits = absurd (omega (arith, fits.1.0))
all_pairs Q a b c d (x ∷ y ∷ z ∷ tuple) fits = absurd fits.1.1

all_four : (a b c d : Bool) → (a && (b && (c && d))) ≡ true → (a ≡ true) × (b ≡ true) × (c ≡ true) × (d ≡ true)
all_four true true true true e = (refl, refl, refl, refl)
all_four true true true false e = absurd cc
all_four true true false d e = absurd cc
all_four true false c d e = absurd cc
all_four false b c d e = absurd cc

pub at_most : {a b : ℤ} → int_le a b ≡ true → a ≤ℤ b
at_most e = record { le = subst T (sym e) tt }

-- a tuple is another one, or dead, or has enough
where_live : (same live enough : Bool) → (not same || (not live || enough)) ≡ true → same ≡ true → live ≡ true → enough ≡ true
where_live true true true e h l = refl
where_live true true false e h l = absurd cc
where_live true false enough e h l = absurd cc
where_live false live enough e h l = absurd cc

where_same : (same enough : Bool) → (not same || enough) ≡ true → same ≡ true → enough ≡ true
where_same true true e h = refl
where_same true false e h = absurd cc
where_same false enough e h = absurd cc

abbrev gives : Network → List Event → ℕ → ℕ → ℕ → ℕ → List ℕ → Bool
gives P history f i a m tuple = not (slice_index tuple i == a) || (not (is_live_tuple P history f tuple) || int_le (pos m) (residual P history f tuple))

pub can_project : (P : Network) (history : List Event) (f i a m : ℕ) → dims_at P f ≡ 2 ∷ 2 ∷ []
    → (gives P history f i a m (0 ∷ 0 ∷ []) && (gives P history f i a m (0 ∷ 1 ∷ []) && (gives P history f i a m (1 ∷ 0 ∷ []) && gives P history f i a m (1 ∷ 1 ∷ [])))) ≡ true
    → CanProject P history f i a m
can_project P history f i a m two tests tuple fits is live =
    let four = all_four (gives P history f i a m (0 ∷ 0 ∷ [])) (gives P history f i a m (0 ∷ 1 ∷ [])) (gives P history f i a m (1 ∷ 0 ∷ [])) (gives P history f i a m (1 ∷ 1 ∷ [])) tests in
    let test = all_pairs (λ t. gives P history f i a m t ≡ true) four.0 four.1 four.2 four.3 tuple (subst (λ ds. Fits ds tuple) two fits) in
    at_most (where_live (slice_index tuple i == a) (is_live_tuple P history f tuple) (int_le (pos m) (residual P history f tuple)) test (eq-eqb (slice_index tuple i) a is) live)

abbrev lifts : Network → List Event → ℕ → ℕ → ℕ → Bool
lifts P history x m a = not (is_live history x a) || int_le (pos m) (unary P history x a)

pub can_lift : (P : Network) (history : List Event) (x m : ℕ) → slice_index P.sizes x ≡ 2 → (lifts P history x m 0 && lifts P history x m 1) ≡ true → CanLift P history x m
can_lift P history x m two tests a lt live = at_most (where_same (is_live history x a) (int_le (pos m) (unary P history x a)) (by_value a (subst (λ n. a < n) two lt)) live)
  where
    by_value : (a : ℕ) → a < 2 → lifts P history x m a ≡ true
    by_value zero lt = (and_parts (lifts P history x m 0) (lifts P history x m 1) tests).0
    by_value (suc zero) lt = (and_parts (lifts P history x m 0) (lifts P history x m 1) tests).1
    by_value (suc (suc b)) lt = absurd (omega arith)

abbrev reaches : Network → List Event → ℕ → ℕ → ℕ → List ℕ → Bool
reaches P history k f c tuple = not (cell (dims_at P f) tuple == c) || int_le (pos k) (pos (floor P history) +ℤ residual P history f tuple)

pub can_cut : (P : Network) (history : List Event) (k f c : ℕ) → dims_at P f ≡ 2 ∷ 2 ∷ []
    → (reaches P history k f c (0 ∷ 0 ∷ []) && (reaches P history k f c (0 ∷ 1 ∷ []) && (reaches P history k f c (1 ∷ 0 ∷ []) && reaches P history k f c (1 ∷ 1 ∷ [])))) ≡ true
    → CanCutTuple P history k f c
can_cut P history k f c two tests tuple fits is =
    let four = all_four (reaches P history k f c (0 ∷ 0 ∷ [])) (reaches P history k f c (0 ∷ 1 ∷ [])) (reaches P history k f c (1 ∷ 0 ∷ [])) (reaches P history k f c (1 ∷ 1 ∷ [])) tests in
    let test = all_pairs (λ t. reaches P history k f c t ≡ true) four.0 four.1 four.2 four.3 tuple (subst (λ ds. Fits ds tuple) two fits) in
    at_most (where_same (cell (dims_at P f) tuple == c) (int_le (pos k) (pos (floor P history) +ℤ residual P history f tuple)) test (eq-eqb (cell (dims_at P f) tuple) c is))

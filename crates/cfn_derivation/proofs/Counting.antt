-- A cut of a live value leaves one live value less.
use Rattle.std.proofs.Common.{◌≡◌, ℕ, zero, suc, ◌+◌, ◌<◌, ◌≤◌, Bool, true, false, not, ◌&&◌, List, ◌∷◌, length, refl, sym, ap, ◌∙◌, subst, inl, inr, arith, eq-eqb}
use Rattle.std.proofs.lemmas.Bool.{cases_eq}
use Rattle.std.specs.Prelude.{◌==◌, slice_index, if◌then◌else◌}
use Rattle.cfn_model.specs.declared.step.Step.TheVariants.{CutValue}
use Rattle.cfn_model.specs.declared.step.Event.{Event}
use Rattle.cfn_model.specs.declared.step.Event.TheVariants.{Did}
use Rattle.cfn_model.specs.Network.{Network}
use Rattle.cfn_model.specs.Sums.{is_live}
use Rattle.cfn_model.specs.Steps.{IsValue}
use Rattle.cfn_model.proofs.CallerLemmas.{eqb_other}
use Rattle.cfn_rows.specs.Sets.{live_below}
use Rattle.cfn_rows.proofs.CallerLemmas.{live_below_most}
use Rattle.cfn_derivation.specs.Derived.{values_of, value_count, live_of, live_values}

abbrev one : Bool → ℕ
one b = if b then 1 else 0

-- what is live behind a cut
pub cut_itself : (history : List Event) (x a : ℕ) → is_live (Did (CutValue x a) ∷ history) x a ≡ false
cut_itself history x a = ap (λ t. not (t && (a == a)) && is_live history x a) (eq-eqb x x refl) ∙ ap (λ t. not t && is_live history x a) (eq-eqb a a refl)

pub cut_other_value : (history : List Event) (x a b : ℕ) → (a ≡ b → ⊥) → is_live (Did (CutValue x a) ∷ history) x b ≡ is_live history x b
cut_other_value history x a b other = ap (λ t. not (t && (a == b)) && is_live history x b) (eq-eqb x x refl) ∙ ap (λ t. not t && is_live history x b) (eqb_other a b other)

pub cut_other_variable : (history : List Event) (x a y b : ℕ) → (x ≡ y → ⊥) → is_live (Did (CutValue x a) ∷ history) y b ≡ is_live history y b
cut_other_variable history x a y b other = ap (λ t. not (t && (a == b)) && is_live history y b) (eqb_other x y other)

pub cut_fewer : (history : List Event) (x a y b : ℕ) → is_live (Did (CutValue x a) ∷ history) y b ≡ true → is_live history y b ≡ true
cut_fewer history x a y b live = second (not ((x == y) && (a == b))) (is_live history y b) live
  where
    second : (a b : Bool) → (a && b) ≡ true → b ≡ true
    second true b e = e
    second false b e = absurd cc

-- counts of one variable
below_same : (history : List Event) (x a y n : ℕ) → (x ≡ y → ⊥) → live_below (Did (CutValue x a) ∷ history) y n ≡ live_below history y n
below_same history x a y zero other = refl
below_same history x a y (suc n) other =
    let here = ap one (cut_other_variable history x a y n other) in
    let rest = below_same history x a y n other in
    omega (arith, here, rest)

below_before : (history : List Event) (x a n : ℕ) → n ≤ a → live_below (Did (CutValue x a) ∷ history) x n ≡ live_below history x n
below_before history x a zero h = refl
below_before history x a (suc n) h =
    let here = ap one (cut_other_value history x a n (λ e. omega (arith, h, e))) in
    let rest = below_before history x a n (omega (arith, h)) in
    omega (arith, here, rest)

below_less : (history : List Event) (x a n : ℕ) → a < n → is_live history x a ≡ true → live_below (Did (CutValue x a) ∷ history) x n + 1 ≡ live_below history x n
below_less history x a zero h live = absurd (omega (arith, h))
below_less history x a (suc n) h live = elim (cases_eq n a) [
  | inl e ↦
      (let here : one (is_live (Did (CutValue x a) ∷ history) x n) ≡ 0 = ap one (ap (is_live (Did (CutValue x a) ∷ history) x) e ∙ cut_itself history x a) in
      let was : one (is_live history x n) ≡ 1 = ap one (ap (is_live history x) e ∙ live) in
      let rest = below_before history x a n (omega (arith, e)) in
      omega (arith, here, was, rest))
  | inr d ↦
      (let here = ap one (cut_other_value history x a n (λ e. d (sym e))) in
      let rest = below_less history x a n (omega (arith, h, d)) live in
      omega (arith, here, rest))
]

-- and of all
of_same : (P : Network) (history : List Event) (x a n : ℕ) → n ≤ x → live_of P (Did (CutValue x a) ∷ history) n ≡ live_of P history n
of_same P history x a zero h = refl
of_same P history x a (suc n) h =
    let here = below_same history x a n (slice_index P.sizes n) (λ e. omega (arith, h, e)) in
    let rest = of_same P history x a n (omega (arith, h)) in
    omega (arith, here, rest)

of_less : (P : Network) (history : List Event) (x a n : ℕ) → x < n → a < slice_index P.sizes x → is_live history x a ≡ true → live_of P (Did (CutValue x a) ∷ history) n + 1 ≡ live_of P history n
of_less P history x a zero h value live = absurd (omega (arith, h))
of_less P history x a (suc n) h value live = elim (cases_eq n x) [
  | inl e ↦
      (let here : live_below (Did (CutValue x a) ∷ history) n (slice_index P.sizes n) + 1 ≡ live_below history n (slice_index P.sizes n) =
      subst (λ y. live_below (Did (CutValue x a) ∷ history) y (slice_index P.sizes y) + 1 ≡ live_below history y (slice_index P.sizes y)) (sym e) (below_less history x a (slice_index P.sizes x) value live) in
      let rest = of_same P history x a n (omega (arith, e)) in
      omega (arith, here, rest))
  | inr d ↦
      (let here = below_same history x a n (slice_index P.sizes n) (λ e. d (sym e)) in
      let rest = of_less P history x a n (omega (arith, h, d)) value live in
      omega (arith, here, rest))
]

pub one_less : (P : Network) (history : List Event) (x a : ℕ) → IsValue P x a → is_live history x a ≡ true → live_values P (Did (CutValue x a) ∷ history) + 1 ≡ live_values P history
one_less P history x a value live = of_less P history x a (length P.sizes) value.variable value.value live

of_most : (P : Network) (history : List Event) (n : ℕ) → live_of P history n ≤ values_of P n
of_most P history zero = omega arith
of_most P history (suc n) =
    let here = live_below_most history n (slice_index P.sizes n) in
    let rest = of_most P history n in
    omega (arith, here, rest)

pub at_most_all : (P : Network) (history : List Event) → live_values P history ≤ value_count P
at_most_all P history = of_most P history (length P.sizes)

-- a variable has a live value exactly where its count is not 0
pub some_live : (history : List Event) (x n : ℕ) → 0 < live_below history x n → (a : ℕ) × (a < n) × (is_live history x a ≡ true)
some_live history x zero h = absurd (omega (arith, h))
some_live history x (suc n) h = by (is_live history x n) refl (λ less. some_live history x n less)
  where
    by : (b : Bool) → is_live history x n ≡ b → (0 < live_below history x n → (a : ℕ) × (a < n) × (is_live history x a ≡ true)) → (a : ℕ) × (a < suc n) × (is_live history x a ≡ true)
    by true e rest = (n, omega arith, e)
    by false e rest =
        let none : one (is_live history x n) ≡ 0 = ap one e in
        let some = rest (omega (arith, h, none)) in
        (some.0, (let less = some.1 in omega (arith, less)), some.2)

-- Sums below a number.
use Rattle.std.proofs.Common.{◌≡◌, ◌≢◌, ℕ, zero, suc, ◌<◌, inl, inr, refl, sym, ap, ◌∙◌, arith}
use Rattle.std.proofs.lemmas.Bool.{cases_eq}
use Rattle.std.proofs.lemmas.Int.{ints}
use Rattle.std.specs.Prelude.{ℤ, pos, ◌+ℤ◌, ◌≤ℤ◌}
use Rattle.cfn_model.specs.Laws.{sum_below}

pub sum_below-zero : (n : ℕ) → sum_below (λ i. pos 0) n ≡ pos 0
sum_below-zero zero = refl
sum_below-zero (suc n) = let h = sum_below-zero n in omega (arith, ints, h)

pub sum_below-add : (f g : ℕ → ℤ) (n : ℕ) → sum_below (λ i. f i +ℤ g i) n ≡ (sum_below f n +ℤ sum_below g n)
sum_below-add f g zero = refl
sum_below-add f g (suc n) = let h = sum_below-add f g n in omega (arith, ints, h)

pub sum_below-same : (f g : ℕ → ℤ) (n : ℕ) → ((i : ℕ) → i < n → f i ≡ g i) → sum_below f n ≡ sum_below g n
sum_below-same f g zero h = refl
sum_below-same f g (suc n) h = let r = sum_below-same f g n (λ i l. h i (omega arith)) in let s = h n (omega arith) in omega (arith, ints, r, s)

-- one term that is not nothing
pub sum_below-one : (f : ℕ → ℤ) (n i : ℕ) → i < n → ((j : ℕ) → j ≢ i → f j ≡ pos 0) → sum_below f n ≡ f i
sum_below-one f zero i h none = absurd (omega arith)
sum_below-one f (suc n) i h none = elim (cases_eq i n) [
  | inl same ↦
      (let rest : sum_below f n ≡ pos 0 = sum_below-same f (λ j. pos 0) n (λ j l. none j (λ e. omega arith)) ∙ sum_below-zero n in
      let last : f i ≡ f n = ap f same in
      omega (arith, ints, rest, last))
  | inr other ↦
      (let rest = sum_below-one f n i (omega arith) none in
      let last : f n ≡ pos 0 = none n (λ e. other (sym e)) in
      omega (arith, ints, rest, last))
]

-- a sum of what is not negative is at least each term, and not negative
pub sum_below-not_negative : (f : ℕ → ℤ) (n : ℕ) → ((i : ℕ) → i < n → pos 0 ≤ℤ f i) → pos 0 ≤ℤ sum_below f n
sum_below-not_negative f zero h = omega (arith, ints)
sum_below-not_negative f (suc n) h = let r = sum_below-not_negative f n (λ i l. h i (omega arith)) in let s = h n (omega arith) in omega (arith, ints, r, s)

pub sum_below-at_least : (f : ℕ → ℤ) (n i : ℕ) → ((j : ℕ) → j < n → pos 0 ≤ℤ f j) → i < n → f i ≤ℤ sum_below f n
sum_below-at_least f zero i h l = absurd (omega arith)
sum_below-at_least f (suc n) i h l = elim (cases_eq i n) [
  | inl same ↦
      (let r = sum_below-not_negative f n (λ j m. h j (omega arith)) in
      let last : f i ≡ f n = ap f same in
      omega (arith, ints, r, last))
  | inr other ↦
      (let r = sum_below-at_least f n i (λ j m. h j (omega arith)) (omega arith) in
      let s = h n (omega arith) in
      omega (arith, ints, r, s))
]

-- the first term apart
pub sum_below-first : (f : ℕ → ℤ) (n : ℕ) → sum_below f (suc n) ≡ (f 0 +ℤ sum_below (λ i. f (suc i)) n)
sum_below-first f zero = omega (arith, ints)
sum_below-first f (suc n) = let h = sum_below-first f n in omega (arith, ints, h)

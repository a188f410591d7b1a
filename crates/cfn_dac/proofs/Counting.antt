-- How many numbers below one pass a test, from those that are known.
use Rattle.std.proofs.Common.{◌≡◌, ◌⊎◌, ℕ, zero, suc, ◌+◌, ◌<◌, ◌≤◌, Bool, true, false, inl, inr, List, refl, sym, ap, ◌∙◌, arith}
use Rattle.std.proofs.lemmas.Bool.{cases_Bool, cases_eq}
use Rattle.std.specs.Prelude.{if◌then◌else◌}
use Rattle.cfn_model.specs.declared.step.Event.{Event}
use Rattle.cfn_model.specs.Sums.{is_live}
use Rattle.cfn_rows.specs.Sets.{live_below}
use Rattle.cfn_consistency.specs.Openness.{count_below}

abbrev one_if : Bool → ℕ
one_if b = if b then 1 else 0

yes : (b : Bool) → b ≡ true → one_if b ≡ 1
yes true e = refl
yes false e = absurd cc

no : (b : Bool) → b ≡ false → one_if b ≡ 0
no true e = absurd cc
no false e = refl

most : (b : Bool) → one_if b ≤ 1
most true = omega arith
most false = omega arith

-- the two counts of live values are one
pub same_count : (history : List Event) (x n : ℕ) → live_below history x n ≡ count_below (is_live history x) n
same_count history x zero = refl
same_count history x (suc n) = ap (λ m. one_if (is_live history x n) + m) (same_count history x n)

-- where none passes; where at most one number does; and where at most two do
pub at_most_none : (test : ℕ → Bool) (n : ℕ) → ((k : ℕ) → k < n → test k ≡ false) → count_below test n ≡ 0
at_most_none test zero none = refl
at_most_none test (suc n) none =
    let rest = at_most_none test n (λ k h. none k (omega (arith, h))) in let here = no (test n) (none n (omega arith)) in omega (arith, rest, here)

pub at_most_one : (test : ℕ → Bool) (n i : ℕ) → ((k : ℕ) → k < n → test k ≡ true → k ≡ i) → count_below test n ≤ 1
at_most_one test zero i only = omega arith
at_most_one test (suc n) i only = elim (cases_Bool (test n)) [
  | inl passes ↦
      (let is = only n (omega arith) passes in
      let rest = at_most_none test n (λ k h. elim (cases_Bool (test k)) [
        | inl also ↦ absurd (let e = only k (omega (arith, h)) also in omega (arith, e, is, h))
        | inr fails ↦ fails
      ]) in
      let here = yes (test n) passes in omega (arith, rest, here))
  | inr fails ↦
      (let rest = at_most_one test n i (λ k h. only k (omega (arith, h))) in let here = no (test n) fails in omega (arith, rest, here))
]

pub at_most_two : (test : ℕ → Bool) (n i j : ℕ) → ((k : ℕ) → k < n → test k ≡ true → (k ≡ i) ⊎ (k ≡ j)) → count_below test n ≤ 2
at_most_two test zero i j only = omega arith
at_most_two test (suc n) i j only = elim (cases_Bool (test n)) [
  | inl passes ↦
      (let rest : count_below test n ≤ 1 = elim (only n (omega arith) passes) [
        | inl is ↦ at_most_one test n j (λ k h also. other k i j (only k (omega (arith, h)) also) (λ e. omega (arith, e, is, h)))
        | inr is ↦ at_most_one test n i (λ k h also. other k j i (swap (only k (omega (arith, h)) also)) (λ e. omega (arith, e, is, h)))
      ] in
      let here = yes (test n) passes in omega (arith, rest, here))
  | inr fails ↦
      (let rest = at_most_two test n i j (λ k h. only k (omega (arith, h))) in let here = no (test n) fails in omega (arith, rest, here))
]
  where
    other : (k i j : ℕ) → (k ≡ i) ⊎ (k ≡ j) → (k ≡ i → ⊥) → k ≡ j
    other k i j (inl e) apart = absurd (apart e)
    other k i j (inr e) apart = e

    swap : {A B : Type 0} → A ⊎ B → B ⊎ A
    swap (inl a) = inr a
    swap (inr b) = inl b

-- one, two, and three that pass
pub some_one : (test : ℕ → Bool) (n i : ℕ) → i < n → test i ≡ true → 1 ≤ count_below test n
some_one test zero i h passes = absurd (omega (arith, h))
some_one test (suc n) i h passes = elim (cases_eq i n) [
  | inl last ↦ (let here = yes (test n) (ap test (sym last) ∙ passes) in omega (arith, here))
  | inr before ↦ (let rest = some_one test n i (omega (arith, h, before)) passes in omega (arith, rest))
]

pub some_two : (test : ℕ → Bool) (n i j : ℕ) → i < j → j < n → test i ≡ true → test j ≡ true → 2 ≤ count_below test n
some_two test zero i j order h one two = absurd (omega (arith, h))
some_two test (suc n) i j order h one two = elim (cases_eq j n) [
  | inl last ↦ (let here = yes (test n) (ap test (sym last) ∙ two) in let rest = some_one test n i (omega (arith, order, last)) one in omega (arith, here, rest))
  | inr before ↦ (let rest = some_two test n i j order (omega (arith, h, before)) one two in omega (arith, rest))
]

pub some_three : (test : ℕ → Bool) (n i j k : ℕ) → i < j → j < k → k < n → test i ≡ true → test j ≡ true → test k ≡ true → 3 ≤ count_below test n
some_three test zero i j k order later h one two three = absurd (omega (arith, h))
some_three test (suc n) i j k order later h one two three = elim (cases_eq k n) [
  | inl last ↦ (let here = yes (test n) (ap test (sym last) ∙ three) in let rest = some_two test n i j order (omega (arith, later, last)) one two in omega (arith, here, rest))
  | inr before ↦ (let rest = some_three test n i j k order later (omega (arith, h, before)) one two three in omega (arith, rest))
]

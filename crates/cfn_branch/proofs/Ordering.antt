-- Scores with their variables are in a strict order.
use Rattle.std.proofs.Common.{◌≡◌, ℕ, zero, suc, ◌*◌, ◌<◌, ◌≤◌, ◌⊎◌, inl, inr, sym, ap, ◌∙◌, arith}
use Rattle.std.proofs.Math.Nat.{mul_assoc, mul_comm, mul_right_comm, mul-le-mul_right, le_of_mul-le-mul_left}
use Rattle.cfn_branch.specs.declared.choosing.Score.{Score}
use Rattle.cfn_branch.specs.Choosing.{HasLessRatio, HasSameRatio, IsBetter, ComesBefore}

-- a ratio that is at most one that is at most a third
at_most : (a p b q c r : ℕ) → 0 < q → a * q ≤ b * p → b * r ≤ c * q → a * r ≤ c * p
at_most a p b q c r some one two =
    let first : a * q * r ≤ b * p * r = mul-le-mul_right r one in
    let second : b * r * p ≤ c * q * p = mul-le-mul_right p two in
    let begin : q * (a * r) ≡ a * q * r = sym (mul_assoc q a r) ∙ ap (λ n. n * r) (mul_comm q a) in
    let middle : b * p * r ≡ b * r * p = mul_right_comm b p r in
    let end : c * q * p ≡ q * (c * p) = ap (λ n. n * p) (mul_comm c q) ∙ mul_assoc q c p in
    le_of_mul-le-mul_left {k = q} (omega (arith, first, second, begin, middle, end)) some

pub order : (a b : ℕ) → (a < b) ⊎ (b ≤ a)
order a zero = inr (omega arith)
order zero (suc b) = inl (omega arith)
order (suc a) (suc b) = elim (order a b) [
  | inl h ↦ inl (omega (arith, h))
  | inr h ↦ inr (omega (arith, h))
]

-- where a ratio is less than one, and that one at most a third; and the other way round
less_at_most : (a b c : Score) → 0 < c.degree → HasLessRatio a b → b.count * c.degree ≤ c.count * b.degree → HasLessRatio a c
less_at_most a b c some less most = elim (order (a.count * c.degree) (c.count * a.degree)) [
  | inl h ↦ h
  | inr h ↦ absurd (let back = at_most b.count b.degree c.count c.degree a.count a.degree some most h in omega (arith, back, less))
]

at_most_less : (a b c : Score) → 0 < a.degree → a.count * b.degree ≤ b.count * a.degree → HasLessRatio b c → HasLessRatio a c
at_most_less a b c some most less = elim (order (a.count * c.degree) (c.count * a.degree)) [
  | inl h ↦ h
  | inr h ↦ absurd (let back = at_most c.count c.degree a.count a.degree b.count b.degree some h most in omega (arith, back, less))
]

same_same : (a b c : Score) → 0 < b.degree → HasSameRatio a b → HasSameRatio b c → HasSameRatio a c
same_same a b c some one two =
    let there = at_most a.count a.degree b.count b.degree c.count c.degree some (omega (arith, one)) (omega (arith, two)) in
    let back = at_most c.count c.degree b.count b.degree a.count a.degree some (omega (arith, two)) (omega (arith, one)) in
    omega (arith, there, back)

pub better_better : (a b c : Score) → 0 < a.degree → 0 < b.degree → 0 < c.degree → IsBetter a b → IsBetter b c → IsBetter a c
better_better a b c of_a of_b of_c (inl one) (inl two) = inl (less_at_most a b c of_c one (omega (arith, two)))
better_better a b c of_a of_b of_c (inl one) (inr two) = inl (less_at_most a b c of_c one (let e = two.0 in omega (arith, e)))
better_better a b c of_a of_b of_c (inr one) (inl two) = inl (at_most_less a b c of_a (let e = one.0 in omega (arith, e)) two)
better_better a b c of_a of_b of_c (inr one) (inr two) = inr (same_same a b c of_b one.0 two.0, (let d = one.1 in let e = two.1 in omega (arith, d, e)))

-- a third that comes before one that has a worse score comes before that
pub before_better : (a b c : Score) (y x z : ℕ) → 0 < a.degree → 0 < b.degree → 0 < c.degree → ComesBefore a y b x → IsBetter b c → ComesBefore a y c z
before_better a b c y x z of_a of_b of_c (inl one) two = inl (better_better a b c of_a of_b of_c one two)
before_better a b c y x z of_a of_b of_c (inr one) (inl two) = inl (inl (at_most_less a b c of_a (let e = one.0 in omega (arith, e)) two))
before_better a b c y x z of_a of_b of_c (inr one) (inr two) = inl (inr (same_same a b c of_b one.0 two.0, (let d = one.1 in let e = two.1 in omega (arith, d, e))))

pub not_better_itself : (a : Score) → IsBetter a a → ⊥
not_better_itself a (inl less) = omega (arith, less)
not_better_itself a (inr tie) = let h = tie.1 in omega (arith, h)

pub not_before_itself : (a : Score) (x : ℕ) → ComesBefore a x a x → ⊥
not_before_itself a x (inl better) = not_better_itself a better
not_before_itself a x (inr tie) = let h = tie.2 in omega (arith, h)

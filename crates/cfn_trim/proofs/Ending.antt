-- Where no cost of the assignment is left beside the floor, the floor is its total.
use Rattle.std.proofs.Common.{◌≡◌, ℕ, zero, suc, ◌<◌, ◌≤◌, min, List, [], ◌∷◌, length, refl, arith}
use Rattle.std.proofs.lemmas.Int.{ints}
use Rattle.std.specs.Prelude.{ℤ, pos, ◌+ℤ◌, slice_index}
use Rattle.cfn_model.specs.declared.step.Event.{Event}
use Rattle.cfn_model.specs.declared.step.Event.TheVariants.{Did, Took, Refused}
use Rattle.cfn_model.specs.Network.{Network, IsNetwork, restrict, scope_at, total}
use Rattle.cfn_model.specs.Sums.{floor, unary, residual}
use Rattle.cfn_model.specs.Steps.{AllInRange}
use Rattle.cfn_model.specs.Laws.{Equivalence, sum_below}
use Rattle.cfn_scan.specs.Exact.{AllInPlace, IsExact, IsExactAlong}
use Rattle.cfn_store.specs.Standing.{Standing, history}
use Rattle.cfn_trim.specs.Shifting.{IsShutting}

sum_none : (f : ℕ → ℤ) (n : ℕ) → ((i : ℕ) → i < n → f i ≡ pos 0) → sum_below f n ≡ pos 0
sum_none f zero none = refl
sum_none f (suc n) none = let rest = sum_none f n (λ i h. none i (omega arith)) in let last = none n (omega arith) in omega (arith, ints, rest, last)

exact_now : (P : Network) (history : List Event) → IsExactAlong P history → IsExact P history
exact_now P [] exact = exact
exact_now P (event ∷ history) exact = exact.0

in_range : (P : Network) (history : List Event) → AllInPlace P history → AllInRange P history
in_range P [] all = tt
in_range P (Did step ∷ history) all = (all.0, in_range P history all.1)
in_range P (Took d ∷ history) all = (tt, in_range P history all.1)
in_range P (Refused d ∷ history) all = (tt, in_range P history all.1)

pub range_of : (P : Network) (history : List Event) → IsExactAlong P history → AllInRange P history
range_of P history exact = in_range P history (exact_now P history exact).range

whole : (t n k u : ℕ) (x y : ℤ) → pos t ≡ ((pos n +ℤ x) +ℤ y) → x ≡ pos 0 → y ≡ pos 0 → k ≤ min u t → k ≤ n
whole t n k u x y is none no_more le = omega (arith, ints, is, none, no_more, le)

pub all_shut : (before s : Standing) (values : List ℕ) (k : ℕ) → Equivalence → IsNetwork s.network → IsExactAlong s.network (history s) → IsShutting before s values k (length s.network.sizes) (length s.network.functions) → (floor s.network (history s) < k → ⊥)
all_shut before s values k equal network exact shut below =
    let P = s.network in
    let h = history s in
    let e = equal P h values network shut.leaf.fits (range_of P h exact) in
    let us = sum_none (λ x. unary P h x (slice_index values x)) (length P.sizes) (shut.unaries below) in
    let rs = sum_none (λ f. residual P h f (restrict (scope_at P f) values)) (length P.functions) (shut.residuals below) in
    let reached = whole (total P values) (floor P h) k P.upper _ _ e us rs shut.leaf.dear in
    absurd (omega (arith, reached, below))

-- what is not below k is at least k
pub reached : (n k : ℕ) → (n < k → ⊥) → k ≤ n
reached n k never = omega (arith, never)

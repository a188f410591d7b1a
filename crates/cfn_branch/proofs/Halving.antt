-- The middle one of a variable's live values.
use Rattle.std.proofs.Common.{◌≡◌, ℕ, zero, suc, ◌+◌, ◌<◌, ◌≤◌, inl, inr, Bool, List, ap, arith}
use Rattle.std.proofs.lemmas.Bool.{cases_Bool, cases_eq}
use Rattle.std.specs.Prelude.{slice_index, if◌then◌else◌, IsTrue}
use Rattle.cfn_model.specs.declared.step.Event.{Event}
use Rattle.cfn_model.specs.declared.step.Decision.TheVariants.{Most}
use Rattle.cfn_model.specs.Sums.{is_live}
use Rattle.cfn_rows.specs.Sets.{live_below}
use Rattle.cfn_store.specs.Standing.{Standing, history}
use Rattle.cfn_branch.specs.Splits.{IsSplit}
use Rattle.cfn_branch.specs.Choosing.{choices, IsOpen}
use Rattle.cfn_branch.specs.Fewest.{half_of, IsMiddle}
use Rattle.cfn_branch.proofs.Ordering.{order}

abbrev pub one_if : Bool → ℕ
one_if passes = if passes then 1 else 0

-- half of two or more is less than the whole
pub half_less : (n : ℕ) → 2 ≤ n → half_of n < n
half_less n two = omega (arith, two)

-- below a greater number no fewer are live
pub live_grows : (events : List Event) (x m n : ℕ) → m ≤ n → live_below events x m ≤ live_below events x n
live_grows events x m zero most = let e : m ≡ 0 = omega (arith, most) in let g = ap (live_below events x) e in omega (arith, g)
live_grows events x m (suc n) most = elim (cases_eq m (suc n)) [
  | inl same ↦ (let g = ap (live_below events x) same in omega (arith, g))
  | inr other ↦ (let rest = live_grows events x m n (omega (arith, most, other)) in omega (arith, rest))
]

-- where more are live below a greater number, one is live in between
pub live_between : (events : List Event) (x m n : ℕ) → live_below events x m < live_below events x n → (a : ℕ) × (m ≤ a) × (a < n) × IsTrue (is_live events x a)
live_between events x m zero less = absurd (omega (arith, less))
live_between events x m (suc n) less = elim (cases_Bool (is_live events x n)) [
  | inl live ↦ elim (order n m) [
    | inl above ↦ absurd (let g = live_grows events x (suc n) m (omega (arith, above)) in omega (arith, g, less))
    | inr most ↦ (n, most, omega arith, live)
  ]
  | inr dead ↦
      (let here : one_if (is_live events x n) ≡ 0 = ap one_if dead in
      let rest = live_between events x m n (omega (arith, less, here)) in
      (rest.0, rest.1, (let l = rest.2 in omega (arith, l)), rest.3))
]

-- the middle one splits
pub middle_splits : (s : Standing) (x v : ℕ) → IsOpen s x → IsMiddle s x v → IsSplit s (Most x v)
middle_splits s x v undecided middle =
    let less = half_less (choices s x) undecided.undecided in
    let half = middle.half in
    let above = live_between (history s) x (v + 1) (slice_index s.network.sizes x) (omega (arith, half, less)) in (
      (v, middle.choice, omega arith),
      (above.0, record { value = record { variable = undecided.there; value = above.2 }; live = above.3 }, (let h = above.1 in omega (arith, h))),
    )

-- A split on a live value of a variable that has another one is strict.
use Rattle.std.proofs.Common.{◌≡◌, ◌≢◌, ℕ, zero, suc, ◌<◌, ◌≤◌, inl, inr, Bool, true, false, List, refl, ap, eq-eqb, arith}
use Rattle.std.proofs.lemmas.Bool.{cases_Bool, cases_eq}
use Rattle.std.specs.Prelude.{slice_index, ◌==◌, if◌then◌else◌, IsTrue, IsFalse}
use Rattle.cfn_model.specs.declared.step.Decision.TheVariants.{Is}
use Rattle.cfn_model.specs.declared.step.Event.{Event}
use Rattle.cfn_model.specs.Sums.{is_live}
use Rattle.cfn_model.specs.Tree.{IsStrictSplit}
use Rattle.cfn_rows.specs.Sets.{live_below}
use Rattle.cfn_store.specs.Standing.{Standing, history}
use Rattle.cfn_branch.specs.Choosing.{IsOpen, IsChoice}

abbrev one_if : Bool → ℕ
one_if passes = if passes then 1 else 0

at_most : (b : Bool) → one_if b ≤ 1
at_most true = omega arith
at_most false = omega arith

-- where some value is live, and where another one is
pub some_live : (path : List Event) (x n : ℕ) → 1 ≤ live_below path x n → (b : ℕ) × (b < n) × IsTrue (is_live path x b)
some_live path x zero h = absurd (omega (arith, h))
some_live path x (suc n) h = elim (cases_Bool (is_live path x n)) [
  | inl live ↦ (n, omega arith, live)
  | inr dead ↦ (let here : one_if (is_live path x n) ≡ 0 = ap one_if dead in let rest = some_live path x n (omega (arith, h, here)) in (rest.0, (let l = rest.1 in omega (arith, l)), rest.2))
]

pub other_live : (path : List Event) (x n v : ℕ) → 2 ≤ live_below path x n → (b : ℕ) × (b < n) × IsTrue (is_live path x b) × (v ≢ b)
other_live path x zero v h = absurd (omega (arith, h))
other_live path x (suc n) v h = elim (cases_eq v n) [
  | inl same ↦
      (let l = at_most (is_live path x n) in
      let rest = some_live path x n (omega (arith, h, l)) in
      let below = rest.1 in
      (rest.0, omega (arith, below), rest.2, λ e. omega (arith, e, same, below)))
  | inr other ↦ elim (cases_Bool (is_live path x n)) [
    | inl live ↦ (n, omega arith, live, other)
    | inr dead ↦ (let here : one_if (is_live path x n) ≡ 0 = ap one_if dead in let rest = other_live path x n v (omega (arith, h, here)) in (rest.0, (let l = rest.1 in omega (arith, l)), rest.2, rest.3))
  ]
]

not_same : (v b : ℕ) → v ≢ b → IsFalse (v == b)
not_same v b h = grind arith

-- the split leaves a live value on either side
pub strict_here : (s : Standing) (x v : ℕ) → IsOpen s x → IsChoice s x v → IsStrictSplit s.network (history s) (Is x v)
strict_here s x v undecided cheapest =
    let o = other_live (history s) x (slice_index s.network.sizes x) v undecided.undecided in
    record {
      first = (v, cheapest.value.value, eq-eqb v v refl, cheapest.live);
      second = (o.0, o.1, not_same v o.0 o.3, o.2);
    }

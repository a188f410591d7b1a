-- Variables without live values, by counts.
use Rattle.std.proofs.Common.{◌≡◌, ℕ, zero, suc, ◌<◌, cond, List, [], ◌∷◌, length, get_or, replicate, refl, ap, ◌∙◌, inl, inr, arith, eq-eqb, ne_eqb}
use Rattle.std.proofs.lemmas.Bool.{cases_Bool, eqb-true, eqb-false, not-true}
use Rattle.std.proofs.lemmas.List.Sums.{sum_by-cons, get_or-le-sum_by}
use Rattle.std.proofs.lemmas.List.Folds.{sum_by-replicate}
use Rattle.std.specs.Prelude.{Bool, true, false, not, ◌==◌, IsFalse, slice_index, count_by}
use Rattle.cfn_model.specs.declared.step.Event.{Event}
use Rattle.cfn_model.specs.Network.{Network}
use Rattle.cfn_model.specs.Sums.{is_live}
use Rattle.cfn_model.specs.Tree.{IsWiped}
use Rattle.cfn_tables.specs.Tables.{Values, Tables, no_values, values_at, takers_at, live_count, has_none, wiped_count, first_values, Says}
use Rattle.cfn_tables.proofs.Live.{live_is}

-- a count is nothing where no element passes, and only there
none_counted : {X : Type 0} (p : X → Bool) (d : X) (xs : List X) → ((i : ℕ) → i < length xs → p (get_or xs i d) ≡ false) → count_by p xs ≡ 0
none_counted p d [] h = refl
none_counted p d (x ∷ xs) h =
    let rest = none_counted p d xs (λ i l. h (suc i) (omega arith)) in
    let e = sum_by-cons (λ y. cond (p y) 1 0) x xs in
    let z = ap {B = ℕ} (λ b. cond b 1 0) (h 0 (omega arith)) in
    omega (arith, e, z, rest)

counted : {X : Type 0} (p : X → Bool) (d : X) (xs : List X) (i : ℕ) → i < length xs → p (get_or xs i d) ≡ true → 0 < count_by p xs
counted p d xs i l h =
    let e = get_or-le-sum_by (λ y. cond (p y) 1 0) xs i d l in
    let z = ap {B = ℕ} (λ b. cond b 1 0) h in
    omega (arith, e, z)

-- where a count is not nothing, an element passes
first_counted : {X : Type 0} (p : X → Bool) (d : X) (xs : List X) → 0 < count_by p xs → (i : ℕ) × (i < length xs) × (p (get_or xs i d) ≡ true)
first_counted p d [] h = absurd (omega arith)
first_counted p d (x ∷ xs) h = elim (cases_Bool (p x)) [
  | inl passes ↦ (0, omega arith, passes)
  | inr fails ↦ (let e = sum_by-cons (λ y. cond (p y) 1 0) x xs in
      let z = ap {B = ℕ} (λ b. cond b 1 0) fails in
      let r = first_counted p d xs (omega (arith, e, z)) in
      (suc r.0, omega (arith, r.1), r.2))
]

-- before any event no variable is without live values
pub first_not_none : (size : ℕ) → 0 < size → has_none (first_values size) ≡ false
first_not_none size h =
    let e = sum_by-replicate (λ n. cond (n == 0) 1 0) size 0 in
    ne_eqb (live_count (replicate size 0)) 0 (λ z. omega (arith, e, z))

pub none_wiped : (variables : List Values) → ((x : ℕ) → x < length variables → has_none (get_or variables x no_values) ≡ false) → wiped_count variables ≡ 0
none_wiped variables h = none_counted has_none no_values variables h

-- counts say whether a variable is wiped
values_none : (P : Network) (history : List Event) (t : Tables) (x : ℕ) → Says P history t → x < length P.sizes → has_none (values_at t x) ≡ true → (a : ℕ) → a < slice_index P.sizes x → IsFalse (is_live history x a)
values_none P history t x s l none a m = elim (cases_Bool (is_live history x a)) [
  | inr dead ↦ dead
  | inl live ↦ absurd (let test : (takers_at t x a == 0) ≡ true = ap (λ n. n == 0) (s.takers x a l m) ∙ live_is history x a ∙ live in
      let some = counted (λ n. n == 0) 0 (values_at t x).takers a (omega (arith, s.shape.takers x l)) test in
      let zero = eqb-true (live_count (values_at t x).takers) 0 none in
      omega (arith, some, zero))
]

none_values : (P : Network) (history : List Event) (t : Tables) (x : ℕ) → Says P history t → x < length P.sizes → ((a : ℕ) → a < slice_index P.sizes x → IsFalse (is_live history x a)) → has_none (values_at t x) ≡ true
none_values P history t x s l wiped =
    eq-eqb (live_count (values_at t x).takers) 0 (none_counted (λ n. n == 0) 0 (values_at t x).takers (λ a m. let n : a < slice_index P.sizes x = omega (arith, s.shape.takers x l) in ap (λ k. k == 0) (s.takers x a l n) ∙ live_is history x a ∙ wiped a n))

pub wiped_is : (P : Network) (history : List Event) (t : Tables) → Says P history t → not (wiped_count t.variables == 0) ≡ true → IsWiped P history
wiped_is P history t s h =
    let some : 0 < wiped_count t.variables = positive (wiped_count t.variables) (eqb-false (wiped_count t.variables) 0 (not-true (wiped_count t.variables == 0) h)) in
    let r = first_counted has_none no_values t.variables some in
    let l : r.0 < length P.sizes = omega (arith, r.1, s.shape.variables) in
    (r.0, l, values_none P history t r.0 s l r.2)
  where
    positive : (n : ℕ) → (n ≡ 0 → ⊥) → 0 < n
    positive zero h = absurd (h refl)
    positive (suc n) h = omega arith

pub is_wiped : (P : Network) (history : List Event) (t : Tables) → Says P history t → IsWiped P history → not (wiped_count t.variables == 0) ≡ true
is_wiped P history t s wiped =
    let some = counted has_none no_values t.variables wiped.0 (omega (arith, wiped.1, s.shape.variables)) (none_values P history t wiped.0 s wiped.1 wiped.2) in
    ap not (ne_eqb (wiped_count t.variables) 0 (λ z. omega (arith, some, z)))

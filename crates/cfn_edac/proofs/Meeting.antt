-- The supports of the values at one place of a function of two variables are supports at the other place.
use Rattle.std.proofs.Common.{◌≡◌, ℕ, zero, suc, ◌-◌, ◌<◌, inl, inr, Bool, length, ap, arith}
use Rattle.std.proofs.lemmas.Bool.{cases_Bool, cases_lt, cases_eq}
use Rattle.std.proofs.lemmas.List.{length-map}
use Rattle.std.specs.Prelude.{List, slice_index, if◌then◌else◌, IsTrue}
use Rattle.cfn_model.specs.declared.step.Event.{Event}
use Rattle.cfn_model.specs.Network.{Network, arity, scope_at, variable_at, dims_at}
use Rattle.cfn_model.specs.Sums.{is_live}
use Rattle.cfn_model.proofs.CallerLemmas.{fits_at}
use Rattle.cfn_net.proofs.CallerLemmas.{get_or-dims}
use Rattle.cfn_rows.specs.Sets.{live_below}
use Rattle.cfn_rows.proofs.CallerLemmas.{live_below_two}
use Rattle.cfn_consistency.proofs.CallerLemmas.{tuple_live_at}
use Rattle.cfn_due.specs.Siding.{HasSupports}

abbrev one_if : Bool → ℕ
one_if b = if b then 1 else 0

-- where some count, one is live
some_live : (history : List Event) (x n : ℕ) → 0 < live_below history x n → (a : ℕ) × (a < n) × IsTrue (is_live history x a)
some_live history x zero some = absurd (omega (arith, some))
some_live history x (suc n) some = elim (cases_Bool (is_live history x n)) [
  | inl live ↦ (n, omega arith, live)
  | inr dead ↦
      (let none = ap one_if dead in
      let rest = some_live history x n (omega (arith, some, none)) in (rest.0, (let h = rest.1 in omega (arith, h)), rest.2))
]

-- where at most one counts, two that are live are one
only_live : (history : List Event) (x n a b : ℕ) → live_below history x n < 2 → a < n → b < n → IsTrue (is_live history x a) → IsTrue (is_live history x b) → a ≡ b
only_live history x n a b few l m first second = elim (cases_eq a b) [
  | inl same ↦ same
  | inr apart ↦ (elim (cases_lt a b) [
    | inl less ↦ absurd (let two = live_below_two history x n a b less m first second in omega (arith, few, two))
    | inr more ↦ absurd (let two = live_below_two history x n b a (omega (arith, more, apart)) l second first in omega (arith, few, two))
  ])
]

-- a live value at a place that has no other one is in a support of a live value at the other place
pub met : (P : Network) (history : List Event) (f i : ℕ) → f < length P.functions → arity P f ≡ 2 → i < 2 → live_below history (variable_at P f i) (slice_index P.sizes (variable_at P f i)) < 2 → 0 < live_below history (variable_at P f (1 - i)) (slice_index P.sizes (variable_at P f (1 - i))) → HasSupports P history f (1 - i) → HasSupports P history f i
met P history f i there two l few some others a place live =
    let x = variable_at P f i in let y = variable_at P f (1 - i) in
    let b = some_live history y (slice_index P.sizes y) some in
    let here = dims_is i (omega (arith, l, two)) in let beyond = dims_is (1 - i) (omega (arith, two)) in
    let has = others b.0 (record { function = there; place = omega (arith, two); value = (let h = b.1 in omega (arith, h, beyond)) }) b.2 in
    let within = fits_at (dims_at P f) has.tuple i has.fits (let long = length-map (scope_at P f) (slice_index P.sizes) in omega (arith, long, l, two)) in
    let now = tuple_live_at P history f i has.tuple (omega (arith, l, two)) has.fits has.live in
    let value = place.value in
    record {
      tuple = has.tuple;
      fits = has.fits;
      at = only_live history x (slice_index P.sizes x) (slice_index has.tuple i) a few (omega (arith, within, here)) (omega (arith, value, here)) now live;
      live = has.live;
      free = has.free;
    }
  where
    dims_is : (k : ℕ) → k < arity P f → slice_index (dims_at P f) k ≡ slice_index P.sizes (variable_at P f k)
    dims_is k h = get_or-dims P.sizes (scope_at P f) k h

-- What is read of places: the two of a pair are those of different variables.
use Rattle.std.proofs.Common.{◌≡◌, ◌⊎◌, ℕ, zero, suc, ◌<◌, ◌≤◌, length, Bool, true, false, sym, subst, inl, inr, arith}
use Rattle.std.proofs.lemmas.Bool.{cases_eq}
use Rattle.std.specs.Prelude.{slice_index}
use Rattle.cfn_model.specs.Network.{Network, IsNetwork, arity, scope_at, variable_at}
use Rattle.cfn_model.specs.Steps.{IsValue, IsPlace}
use Rattle.cfn_net.proofs.CallerLemmas.{get_or-dims}
use Rattle.cfn_store.specs.Standing.{Standing}
use Rattle.cfn_dac.specs.declared.pair.Pair.{Pair}
use Rattle.cfn_dac.specs.Full.{IsPair, first_of, second_of}

pub cases_lt : (a b : ℕ) → (a < b) ⊎ (b ≤ a)
cases_lt a zero = inr (omega arith)
cases_lt a (suc b) = elim (cases_lt a b) [
  | inl h ↦ inl (omega (arith, h))
  | inr h ↦ (elim (cases_eq a b) [
    | inl e ↦ inl (omega (arith, e))
    | inr d ↦ inr (omega (arith, h, d))
  ])
]

pub not_both : {A : Type 0} (b : Bool) → b ≡ true → b ≡ false → A
not_both true e d = absurd cc
not_both false e d = absurd cc

-- the values at the two places of a pair are values of two different variables
value_of : (P : Network) (f i a : ℕ) → IsNetwork P → IsPlace P f i a → IsValue P (variable_at P f i) a
value_of P f i a net place = record {
  variable = (net.functions f place.function).variables i place.place;
  value = let v = place.value in let d = get_or-dims P.sizes (scope_at P f) i place.place in omega (arith, v, d);
}

pub place_of : (P : Network) (f i a : ℕ) → f < length P.functions → i < arity P f → a < slice_index P.sizes (variable_at P f i) → IsPlace P f i a
place_of P f i a there place value = record { function = there; place = place; value = let d = get_or-dims P.sizes (scope_at P f) i place in omega (arith, value, d) }

pub first_value : (P : Network) (pair : Pair) (a : ℕ) → IsNetwork P → IsPlace P pair.function pair.place a → IsValue P (first_of P pair) a
first_value P pair a net place = value_of P pair.function pair.place a net place

pub second_value : (P : Network) (pair : Pair) (b : ℕ) → IsNetwork P → IsPlace P pair.function pair.other b → IsValue P (second_of P pair) b
second_value P pair b net place = value_of P pair.function pair.other b net place

pub variables_apart : (P : Network) (pair : Pair) → IsNetwork P → IsPair P pair → second_of P pair ≡ first_of P pair → ⊥
variables_apart P pair net is same = elim (cases_lt pair.place pair.other) [
  | inl less ↦ (net.functions pair.function is.function).different pair.place pair.other less is.other (sym same)
  | inr more ↦ (net.functions pair.function is.function).different pair.other pair.place (let d = is.different in omega (arith, more, d)) is.place same
]

pub first_within : (P : Network) (pair : Pair) (a : ℕ) → IsPlace P pair.function pair.place a → a < slice_index P.sizes (first_of P pair)
first_within P pair a place = let v = place.value in let d = get_or-dims P.sizes (scope_at P pair.function) pair.place place.place in omega (arith, v, d)

pub first_within_of : (s t : Standing) (pair : Pair) → t.network ≡ s.network → (a : ℕ) → IsPlace s.network pair.function pair.place a → a < slice_index t.network.sizes (first_of t.network pair)
first_within_of s t pair same a place = subst (λ P. a < slice_index P.sizes (first_of P pair)) (sym same) (first_within s.network pair a place)

-- What is read of places: a function has no more of them than there are variables, and a live tuple's values are live.
use Rattle.std.proofs.Common.{◌≡◌, ℕ, suc, ◌<◌, ◌≤◌, ◌^◌, List, [], ◌∷◌, length, true, false, ◌||◌, sym, ap, ◌∙◌, inl, inr, arith}
use Rattle.std.proofs.lemmas.Bool.{cases_eq}
use Rattle.std.proofs.lemmas.Map.Steps.{length-le_from_distinct_below}
use Rattle.std.specs.List.{IsDistinct, AllByRecursion, list_any}
use Rattle.std.specs.Prelude.{slice_index, ◌==◌}
use Rattle.cfn_model.specs.Network.{Network, IsNetwork, arity, scope_at}
use Rattle.cfn_model.proofs.CallerLemmas.{eqb_other}

apart_in : (x : ℕ) (xs : List ℕ) → ((j : ℕ) → j < length xs → x ≡ slice_index xs j → ⊥) → AllByRecursion (λ y. (x == y) ≡ false) xs
apart_in x [] h = tt
apart_in x (y ∷ xs) h = (eqb_other x y (h 0 (omega arith)), apart_in x xs (λ j l. h (suc j) (omega (arith, l))))

distinct : (xs : List ℕ) → ((i j : ℕ) → i < j → j < length xs → slice_index xs i ≡ slice_index xs j → ⊥) → IsDistinct (λ x y. x == y) xs
unfolding IsDistinct
distinct [] h = tt
distinct (x ∷ xs) h = (apart_in x xs (λ j l. h 0 (suc j) (omega arith) (omega (arith, l))), distinct xs (λ i j d l. h (suc i) (suc j) (omega (arith, d)) (omega (arith, l))))

all_below : (xs : List ℕ) (n q : ℕ) → ((i : ℕ) → i < length xs → slice_index xs i < n) → list_any (λ y. q == y) xs ≡ true → q < n
all_below [] n q each h = absurd cc
all_below (x ∷ xs) n q each h = elim (cases_eq q x) [
  | inl e ↦ (let b = each 0 (omega arith) in omega (arith, b, e))
  | inr d ↦ all_below xs n q (λ i l. each (suc i) (omega (arith, l))) (sym (ap (λ t. t || list_any (λ y. q == y) xs) (eqb_other q x d)) ∙ h)
]

pub few_places : (P : Network) (f : ℕ) → IsNetwork P → f < length P.functions → arity P f ≤ 2 ^ 20
few_places P f net there =
    let keeps = net.functions f there in
    let few = net.few in
    let l = length-le_from_distinct_below (scope_at P f) (length P.sizes) (distinct (scope_at P f) (λ i j d l. keeps.different i j d l)) (λ q h. all_below (scope_at P f) (length P.sizes) q keeps.variables h) in
    omega (arith, l, few)

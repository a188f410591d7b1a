-- A function has no more places than the network has variables.
use Rattle.std.proofs.Common.{◌≡◌, ℕ, suc, inl, inr, ◌<◌, ◌≤◌, List, [], ◌∷◌, length, get_or, arith, ne_eqb, eqb}
use Rattle.std.specs.List.{list_any}
use Rattle.std.specs.Prelude.{true, false, slice_index}
use Rattle.std.proofs.lemmas.Bool.{or_cases, eqb-true, false≢true}
use Rattle.std.proofs.lemmas.Map.Keys.{IsDistinct-from_apart}
use Rattle.std.proofs.lemmas.Map.Steps.{length-le_from_distinct_below}
use Rattle.std.proofs.lemmas.List.{get_or_default}
use Rattle.cfn_model.specs.Network.{Network, IsNetwork, arity, scope_at, variable_at}
use Rattle.cfn_model.specs.Steps.{IsPlace}
use Rattle.cfn_net.proofs.CallerLemmas.{get_or-dims}

pub arity_small : (P : Network) (f : ℕ) → IsNetwork P → f < length P.functions → arity P f ≤ 1048576
arity_small P f network there =
    let limits = network.functions f there in
    let few = length-le_from_distinct_below (scope_at P f) (length P.sizes) (IsDistinct-from_apart eqb (scope_at P f) (λ i j d l m. apart (scope_at P f) i j d l m (limits.different i j l m))) (λ q h. found (scope_at P f) (length P.sizes) limits.variables q h) in
    omega (arith, few, network.few)
  where
    apart : (xs : List ℕ) (i j d : ℕ) → i < j → j < length xs → (slice_index xs i ≡ slice_index xs j → ⊥) → eqb (get_or xs i d) (get_or xs j d) ≡ false
    apart xs i j d l m h =
        ne_eqb (get_or xs i d) (get_or xs j d) (λ e. let a = get_or_default xs i d 0 (omega arith) in let b = get_or_default xs j d 0 m in h (cc))

    found : (xs : List ℕ) (n : ℕ) → ((place : ℕ) → place < length xs → slice_index xs place < n) → (q : ℕ) → list_any (eqb q) xs ≡ true → q < n
    found [] n all q h = absurd (false≢true h)
    found (x ∷ xs) n all q h = elim (or_cases (eqb q x) (list_any (eqb q) xs) h) [
      | inl here ↦ (let e = eqb-true q x here in omega (arith, e, all 0 (omega arith)))
      | inr there ↦ found xs n (λ place l. all (suc place) (omega arith)) q there
    ]

-- a function's numbers fit 32 bits
pub record SmallPlace (f i a : ℕ) : Type 0 where
  pub function : f < 4294967296
  pub place : i < 4294967296
  pub value : a < 4294967296

pub place_small : (P : Network) (f i a : ℕ) → IsNetwork P → IsPlace P f i a → SmallPlace f i a
place_small P f i a network range =
    let few = arity_small P f network range.function in
    let size = get_or-dims P.sizes (scope_at P f) i range.place in
    let most = (network.sizes (variable_at P f i) ((network.functions f range.function).variables i range.place)).1 in
    record {
      function = omega (arith, range.function, network.few_functions);
      place = omega (arith, range.place);
      value = omega (arith, range.value, size, most);
    }

-- The functions of arity 0 together.
use Rattle.std.proofs.Common.{◌≡◌, ℕ, suc, ◌+◌, ◌*◌, ◌<◌, ◌≤◌, List, [], ◌∷◌, length, arith}
use Rattle.std.proofs.lemmas.List.Sums.{sum_by-cons}
use Rattle.std.specs.Prelude.{sum_by, slice_index, slice_index_or}
use Rattle.cfn_model.specs.Network.{Function, Network, IsNetwork, function_at, no_function}
use Rattle.cfn_model.specs.Sums.{floor, constant, constant_of}

constants_most : (fs : List Function) (most : ℕ) → ((f : ℕ) → f < length fs → constant (slice_index_or fs f no_function) ≤ most) → sum_by constant fs ≤ length fs * most
constants_most [] most each = omega arith
constants_most (f ∷ fs) most each =
    let r = constants_most fs most (λ i l. each (suc i) (omega (arith, l))) in
    let h = each 0 (omega arith) in
    let c = sum_by-cons constant f fs in
    let g : suc (length fs) * most ≡ most + length fs * most = grind arith in
    omega (arith, r, h, c, g)

capped_constant : (P : Network) (f : ℕ) → IsNetwork P → f < length P.functions → constant (function_at P f) ≤ P.upper
capped_constant P f net l = go (function_at P f).scope (function_at P f).entries (λ c. (net.functions f l).capped c)
  where
    go : (scope entries : List ℕ) → ((c : ℕ) → slice_index entries c ≤ P.upper) → constant_of scope entries ≤ P.upper
    go [] entries capped = capped 0
    go (x ∷ scope) entries capped = omega arith

-- none of them is above the upper bound
pub floor_at_root : (P : Network) → IsNetwork P → floor P [] ≤ length P.functions * P.upper
floor_at_root P net = constants_most P.functions P.upper (λ f l. capped_constant P f net l)

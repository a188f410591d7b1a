-- Costs of what is live are numbers of 64 bits, where costs are exact.
use Rattle.std.proofs.Common.{◌≡◌, ℕ, ◌<◌, ◌^◌, List, length, refl, arith}
use Rattle.std.proofs.lemmas.Int.{ints}
use Rattle.std.specs.Prelude.{ℤ, pos, negsuc, ◌≤ℤ◌, ◌<ℤ◌, IsTrue}
use Rattle.cfn_model.specs.declared.step.Event.{Event}
use Rattle.cfn_model.specs.Network.{Network, Fits, dims_at}
use Rattle.cfn_model.specs.Sums.{unary, residual, is_live, is_live_tuple}
use Rattle.cfn_model.specs.Steps.{IsValue}
use Rattle.cfn_scan.specs.Exact.{IsExact, IsExactAlong}
use Rattle.cfn_scan.specs.Extremes.{IsPicked, IsPickedBetween}
use Rattle.cfn_scan.proofs.Exact.{exact_here}

pub exact_now : (P : Network) (history : List Event) → IsExactAlong P history → IsExact P history
exact_now P history exact = exact_here P history exact

amount : (z : ℤ) → pos 0 ≤ℤ z → z <ℤ pos (2 ^ 64) → (n : ℕ) × (n < 2 ^ 64) × (z ≡ pos n)
amount (pos n) low high = (n, omega (arith, ints, high), refl)
amount (negsuc n) low high = absurd (omega (arith, ints, low))

-- the unary cost of a live value
pub unary_amount : (P : Network) (history : List Event) (x a : ℕ) → IsExactAlong P history → IsValue P x a → IsTrue (is_live history x a) → (n : ℕ) × (n < 2 ^ 64) × (unary P history x a ≡ pos n)
unary_amount P history x a exact value live =
    let now = exact_here P history exact in
    amount (unary P history x a) (now.no_debts.unary x a value live) (now.small.unary x a value live)

-- the residual cost of a live tuple
pub residual_amount : (P : Network) (history : List Event) (f : ℕ) (tuple : List ℕ) → IsExactAlong P history → f < length P.functions → Fits (dims_at P f) tuple → IsTrue (is_live_tuple P history f tuple) → (n : ℕ) × (n < 2 ^ 64) × (residual P history f tuple ≡ pos n)
residual_amount P history f tuple exact there fits live =
    let now = exact_here P history exact in
    amount (residual P history f tuple) (now.no_debts.residual f tuple there fits live) (now.small.residual f tuple there fits live)

-- a tuple with values at two places has each of them, in either order, and one with a value has it twice
pub picked_one : (P : Network) (history : List Event) (f i a j b : ℕ) (tuple : List ℕ) → IsPickedBetween P history f i a j b tuple → IsPicked P history f i a tuple
picked_one P history f i a j b tuple is = record { fits = is.fits; value = is.one; live = is.live }

pub picked_other : (P : Network) (history : List Event) (f i a j b : ℕ) (tuple : List ℕ) → IsPickedBetween P history f i a j b tuple → IsPicked P history f j b tuple
picked_other P history f i a j b tuple is = record { fits = is.fits; value = is.other; live = is.live }

pub picked_swapped : (P : Network) (history : List Event) (f i a j b : ℕ) (tuple : List ℕ) → IsPickedBetween P history f i a j b tuple → IsPickedBetween P history f j b i a tuple
picked_swapped P history f i a j b tuple is = record { fits = is.fits; one = is.other; other = is.one; live = is.live }

pub picked_twice : (P : Network) (history : List Event) (f i a : ℕ) (tuple : List ℕ) → IsPicked P history f i a tuple → IsPickedBetween P history f i a i a tuple
picked_twice P history f i a tuple is = record { fits = is.fits; one = is.value; other = is.value; live = is.live }

-- Amounts that are moved to the values of a pair's first variable, through its function, from the values of the second.
use Rattle.std.specs.Prelude.{◌≡◌, ℕ, ◌-◌, ◌<◌, ◌≤◌, ◌^◌, ◌⊎◌, List, slice_index, Option, Some, None, pos, ◌+ℤ◌, ◌≤ℤ◌, ◌<ℤ◌, IsTrue}
use Rattle.cfn_model.specs.declared.step.Event.{Event}
use Rattle.cfn_model.specs.Network.{Network, Fits, dims_at, cell}
use Rattle.cfn_model.specs.Sums.{floor, unary, residual, is_live, is_live_tuple}
use Rattle.cfn_model.specs.Steps.{IsPlace}
use Rattle.cfn_consistency.specs.Consistency.{HasFullSupport}
use Rattle.cfn_scan.specs.declared.scan.Extreme.{Extreme}
use Rattle.cfn_scan.specs.Extremes.{IsPicked, IsPickedBetween}
use Rattle.cfn_dac.specs.declared.pair.Pair.{Pair}
use Rattle.cfn_dac.specs.Full.{first_of, total}

-- A live tuple of f.
pub record IsLiveTuple (P : Network) (history : List Event) (f : ℕ) (tuple : List ℕ) : Type 0 where
  pub fits : Fits (dims_at P f) tuple
  pub live : IsTrue (is_live_tuple P history f tuple)

-- The least total of the live tuples with the values a and b, or at least the greatest number of 64 bits.
pub record IsTotalBetween (P : Network) (history : List Event) (pair : Pair) (a b least : ℕ) : Type 0 where
  pub bound : (tuple : List ℕ) → IsPickedBetween P history pair.function pair.place a pair.other b tuple → pos least ≤ℤ total P history pair tuple
  pub reached : least < 2 ^ 64 - 1 → (tuple : List ℕ) × IsPickedBetween P history pair.function pair.place a pair.other b tuple × (total P history pair tuple ≡ pos least)

-- The least total of those with the value a.
pub record IsLeastTotal (P : Network) (history : List Event) (pair : Pair) (a least : ℕ) : Type 0 where
  pub bound : (tuple : List ℕ) → IsPicked P history pair.function pair.place a tuple → pos least ≤ℤ total P history pair tuple
  pub reached : least < 2 ^ 64 - 1 → (tuple : List ℕ) × IsPicked P history pair.function pair.place a tuple × (total P history pair tuple ≡ pos least)

-- An amount that a live value gets is at most a number, and so is its unary cost then.
pub record IsWithin (P : Network) (history : List Event) (pair : Pair) (most a m : ℕ) : Type 0 where
  pub live : IsTrue (is_live history (first_of P pair) a)
  pub amount : m ≤ most
  pub cost : (unary P history (first_of P pair) a +ℤ pos m) ≤ℤ pos most

-- A live tuple with the value a has this total.
pub record HasTotal (P : Network) (history : List Event) (pair : Pair) (a m : ℕ) : Type 0 where
  pub tuple : List ℕ
  pub picked : IsPicked P history pair.function pair.place a tuple
  pub is : total P history pair tuple ≡ pos m

-- With an amount the value a comes to alpha, or to a full support.
abbrev pub Reaches : Network → List Event → Pair → ℕ → ℕ → ℕ → Type 0
Reaches P history pair alpha a m = (pos alpha ≤ℤ (unary P history (first_of P pair) a +ℤ pos m)) ⊎ ((m < alpha) × HasTotal P history pair a m)

-- What goes to the value a: no more than any total, nor than leaves its unary cost at alpha, and as much as brings it there or
-- to a full support; and nothing where it has one or needs none.
pub record IsAmount (P : Network) (history : List Event) (pair : Pair) (alpha a amount : ℕ) : Type 0 where
  pub bound : (tuple : List ℕ) → IsPicked P history pair.function pair.place a tuple → pos amount ≤ℤ total P history pair tuple
  pub within : 0 < amount → IsWithin P history pair alpha a amount
  pub reaches : IsTrue (is_live history (first_of P pair) a) → Reaches P history pair alpha a amount
  pub full : amount ≡ 0 → IsTrue (is_live history (first_of P pair) a) → unary P history (first_of P pair) a <ℤ pos alpha → HasFullSupport P history pair.function pair.place pair.other a

-- Amounts are covered: live tuples whose second value is below b have them, and the others have them together with that
-- value.
pub record Covers (P : Network) (history : List Event) (pair : Pair) (moves : List ℕ) (b : ℕ) : Type 0 where
  pub done : (tuple : List ℕ) → IsLiveTuple P history pair.function tuple → slice_index tuple pair.other < b → pos (slice_index moves (slice_index tuple pair.place)) ≤ℤ residual P history pair.function tuple
  pub rest : (tuple : List ℕ) → IsLiveTuple P history pair.function tuple → b ≤ slice_index tuple pair.other → pos (slice_index moves (slice_index tuple pair.place)) ≤ℤ total P history pair tuple

-- The amounts of the values from n on that get one are at most a number so.
abbrev pub AreWithin : Network → List Event → Pair → ℕ → List ℕ → ℕ → Type 0
AreWithin P history pair most moves n = (a : ℕ) → IsPlace P pair.function pair.place a → n ≤ a → 0 < slice_index moves a → IsWithin P history pair most a (slice_index moves a)

-- Only live values get an amount.
abbrev pub AreForLive : Network → List Event → Pair → List ℕ → Type 0
AreForLive P history pair moves = (a : ℕ) → IsPlace P pair.function pair.place a → 0 < slice_index moves a → IsTrue (is_live history (first_of P pair) a)

-- From the value n on live tuples have their first values' amounts.
abbrev pub AreLent : Network → List Event → Pair → List ℕ → ℕ → Type 0
AreLent P history pair moves n =
    (tuple : List ℕ) → IsLiveTuple P history pair.function tuple → n ≤ slice_index tuple pair.place → pos (slice_index moves (slice_index tuple pair.place)) ≤ℤ residual P history pair.function tuple

-- A value from n on gets an amount.
abbrev pub SomeFrom : Network → Pair → List ℕ → ℕ → Type 0
SomeFrom P pair moves n = (a : ℕ) × IsPlace P pair.function pair.place a × (n ≤ a) × (0 < slice_index moves a)

-- What the live tuples with the values a and b lack of an amount.
pub record IsLack (P : Network) (history : List Event) (pair : Pair) (a b amount lack : ℕ) : Type 0 where
  pub enough : (tuple : List ℕ) → IsPickedBetween P history pair.function pair.place a pair.other b tuple → pos amount ≤ℤ (residual P history pair.function tuple +ℤ pos lack)
  pub due : 0 < lack → (tuple : List ℕ) × IsPickedBetween P history pair.function pair.place a pair.other b tuple × (pos amount ≡ residual P history pair.function tuple +ℤ pos lack)

-- What a least cost lacks of an amount; where there is none, nothing is lacking.
abbrev pub lack_of : ℕ → Option Extreme → ℕ
lack_of amount None = 0
lack_of amount (Some extreme) = amount - extreme.cost

-- What the value b of the second variable has to give: the most that a live tuple with it lacks of its first value's amount.
pub record IsShare (P : Network) (history : List Event) (pair : Pair) (moves : List ℕ) (b share : ℕ) : Type 0 where
  pub enough : (tuple : List ℕ) → IsPicked P history pair.function pair.other b tuple → pos (slice_index moves (slice_index tuple pair.place)) ≤ℤ (residual P history pair.function tuple +ℤ pos share)
  pub due : 0 < share → (tuple : List ℕ) × IsPicked P history pair.function pair.other b tuple × (pos (slice_index moves (slice_index tuple pair.place)) ≡ residual P history pair.function tuple +ℤ pos share)

-- Between two histories tuples were cut, and nothing else changed.
pub record Trims (P : Network) (before after : List Event) : Type 0 where
  pub floor : floor P after ≡ floor P before
  pub unary : (x a : ℕ) → unary P after x a ≡ unary P before x a
  pub residual : (f : ℕ) (tuple : List ℕ) → residual P after f tuple ≡ residual P before f tuple
  pub values : (x a : ℕ) → is_live after x a ≡ is_live before x a
  pub tuples : (f : ℕ) (tuple : List ℕ) → IsTrue (is_live_tuple P after f tuple) → IsTrue (is_live_tuple P before f tuple)

-- Each live tuple of f with the value a at place i has a residual cost below a number.
abbrev pub CostBelow : Network → List Event → ℕ → ℕ → ℕ → ℕ → Type 0
CostBelow P history f i a most = (tuple : List ℕ) → IsPicked P history f i a tuple → residual P history f tuple <ℤ pos most

-- A cell is that of such a tuple, whose residual cost is at least a number.
pub record IsCostly (P : Network) (history : List Event) (f i a least c : ℕ) : Type 0 where
  pub tuple : List ℕ
  pub picked : IsPicked P history f i a tuple
  pub cell_is : cell (dims_at P f) tuple ≡ c
  pub cost : pos least ≤ℤ residual P history f tuple

-- Between two histories no live tuple of f was cut with which the floor stays below a threshold, and none of another function.
pub record KeepsCheap (P : Network) (before after : List Event) (k f : ℕ) : Type 0 where
  pub cheap : (tuple : List ℕ) → IsLiveTuple P before f tuple → (pos (floor P before) +ℤ residual P before f tuple) <ℤ pos k → IsTrue (is_live_tuple P after f tuple)
  pub others : (g : ℕ) (tuple : List ℕ) → (g ≡ f → ⊥) → is_live_tuple P after g tuple ≡ is_live_tuple P before g tuple

-- The functions between a variable and other open variables.
use Rattle.std.specs.Prelude.{◌≡◌, ℕ, ◌<◌, ◌≤◌, List, length, slice_index_or}
use Rattle.cfn_model.specs.declared.step.Event.{Event}
use Rattle.cfn_model.specs.Network.{Network, variable_at}
use Rattle.cfn_consistency.specs.Openness.{HasOpenPair}
use Rattle.cfn_consistency.specs.Consistency.{IsFree, HasFullSupport}
use Rattle.cfn_dac.specs.declared.pair.Pair.{Pair}

-- A pair of a list, and the variable at its other place.
abbrev pub pair_at : List Pair → ℕ → Pair
pair_at pairs k = slice_index_or pairs k (record { function = 0; place = 0; other = 0 })

abbrev pub other_of : Network → Pair → ℕ
other_of P pair = variable_at P pair.function pair.other

-- A neighbour of x: the open pair of a function, with x at the first place.
pub record IsNeighbour (P : Network) (history : List Event) (x : ℕ) (pair : Pair) : Type 0 where
  pub both : HasOpenPair P history pair.function pair.place pair.other
  pub at : variable_at P pair.function pair.place ≡ x

-- A list has a neighbour to y, by f or a function of a lower number.
pub record IsReached (P : Network) (pairs : List Pair) (f y : ℕ) : Type 0 where
  pub neighbour : ℕ
  pub within : neighbour < length pairs
  pub first : (pair_at pairs neighbour).function ≤ f
  pub other : other_of P (pair_at pairs neighbour) ≡ y

-- A list has neighbours of x, and one to each open variable that is with x the open pair of a function, by the first such one,
-- and no second one to the same.
pub record AreNeighbours (P : Network) (history : List Event) (x : ℕ) (pairs : List Pair) : Type 0 where
  pub each : (k : ℕ) → k < length pairs → IsNeighbour P history x (pair_at pairs k)
  pub all : (f i j : ℕ) → HasOpenPair P history f i j → variable_at P f i ≡ x → IsReached P pairs f (variable_at P f j)
  pub once : (k m : ℕ) → k < length pairs → m < length pairs → other_of P (pair_at pairs k) ≡ other_of P (pair_at pairs m) → k ≡ m

-- A network, and the pairs that were gathered.
pub record Gathered : Type 0 where
  pub network : Network
  pub pairs : List Pair

-- A live value of x has the unary cost 0 and a full support in each of the neighbours.
pub record IsGood (P : Network) (history : List Event) (x : ℕ) (pairs : List Pair) (a : ℕ) : Type 0 where
  pub free : IsFree P history x a
  pub full : (k : ℕ) → k < length pairs → HasFullSupport P history (pair_at pairs k).function (pair_at pairs k).place (pair_at pairs k).other a

abbrev pub HasGood : Network → List Event → ℕ → List Pair → Type 0
HasGood P history x pairs = (a : ℕ) × IsGood P history x pairs a

-- What a value of a variable asks: its unary cost, and what it finds in the neighbours.
use Rattle.std.specs.Prelude.{◌≡◌, ℕ, ◌+◌, ◌-◌, ◌<◌, ◌≤◌, ◌^◌, min, List, length, sum, slice_index, pos, IsTrue}
use Rattle.cfn_model.specs.declared.step.Event.{Event}
use Rattle.cfn_model.specs.Network.{Network}
use Rattle.cfn_model.specs.Sums.{unary, is_live}
use Rattle.cfn_model.specs.Steps.{IsValue}
use Rattle.cfn_dac.specs.declared.pair.Pair.{Pair}
use Rattle.cfn_dac.specs.Moves.{IsLeastTotal}
use Rattle.cfn_edac.specs.Neighbours.{AreNeighbours, pair_at}

-- The greatest number of 64 bits: an amount that is as great, or is infinite, counts as this.
abbrev pub cap : ℕ
cap = 2 ^ 64 - 1

-- What the value a finds in a neighbour: the least residual cost of the live tuples with it, each with the unary cost of its
-- other value, capped; where there is no such tuple it is infinite.
pub record Finds (P : Network) (history : List Event) (pair : Pair) (a amount : ℕ) : Type 0 where
  pub is : IsLeastTotal P history pair a amount
  pub capped : amount ≤ cap

-- The value a of x asks an amount of the first n neighbours: its unary cost and what it finds in each of them, capped.
pub record Asks (P : Network) (history : List Event) (x : ℕ) (pairs : List Pair) (a n amount : ℕ) : Type 0 where
  pub own : ℕ
  pub own_is : pos own ≡ unary P history x a
  pub found : List ℕ
  pub size : length found ≡ n
  pub each : (k : ℕ) → k < n → Finds P history (pair_at pairs k) a (slice_index found k)
  pub sum : amount ≡ min cap (own + sum found)

-- A live value of x: no live value asks less of all the neighbours, and none before it asks as little.
pub record IsCheapestBy (P : Network) (history : List Event) (x : ℕ) (pairs : List Pair) (a : ℕ) : Type 0 where
  pub value : IsValue P x a
  pub live : IsTrue (is_live history x a)
  pub amount : ℕ
  pub asks : Asks P history x pairs a (length pairs) amount
  pub least : (b other : ℕ) → IsValue P x b → IsTrue (is_live history x b) → Asks P history x pairs b (length pairs) other → amount ≤ other
  pub first : (b : ℕ) → IsValue P x b → IsTrue (is_live history x b) → Asks P history x pairs b (length pairs) amount → a ≤ b

-- The same by the neighbours of x.
pub record IsCheapest (P : Network) (history : List Event) (x a : ℕ) : Type 0 where
  pub pairs : List Pair
  pub neighbours : AreNeighbours P history x pairs
  pub cheapest : IsCheapestBy P history x pairs a

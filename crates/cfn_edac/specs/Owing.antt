-- What each live value of a variable costs at least, together with a live tuple of its in each neighbour.
use Rattle.std.specs.Prelude.{◌≡◌, ◌⊎◌, ℕ, zero, suc, ◌+◌, ◌<◌, ◌≤◌, List, length, ℤ, pos, ◌+ℤ◌, ◌≤ℤ◌, IsTrue, Result}
use Rattle.cfn_model.specs.declared.step.Event.{Event}
use Rattle.cfn_model.specs.Network.{Network}
use Rattle.cfn_model.specs.Sums.{floor, unary, is_live}
use Rattle.cfn_model.specs.Steps.{IsValue}
use Rattle.cfn_scan.specs.Extremes.{IsPicked}
use Rattle.cfn_dac.specs.declared.pair.Pair.{Pair}
use Rattle.cfn_dac.specs.Full.{total}
use Rattle.cfn_edac.specs.Neighbours.{AreNeighbours, pair_at}
use Rattle.cfn_edac.specs.Asking.{Asks}
use Rattle.cfn_consistency.specs.Consistency.{IsExistential}
use Rattle.cfn_store.specs.Standing.{Standing, history}
use Rattle.cfn_gain.specs.declared.limits.Halt.{Halt}
use Rattle.cfn_gain.specs.Passes.{HasLive}
use Rattle.cfn_gain.specs.Levels.{RisesBy}

-- A cost and the totals of live tuples with the value a, one in each of the first n neighbours, come to an amount.
abbrev pub ComesTo : Network → List Event → List Pair → ℕ → ℕ → ℤ → ℕ → Type 0
ComesTo P history pairs a zero cost amount = pos amount ≤ℤ cost
ComesTo P history pairs a (suc n) cost amount =
    (tuple : List ℕ) → IsPicked P history (pair_at pairs n).function (pair_at pairs n).place a tuple → ComesTo P history pairs a n (cost +ℤ total P history (pair_at pairs n) tuple) amount

-- Each live value of x does so with its unary cost.
abbrev pub AllComeTo : Network → List Event → ℕ → List Pair → ℕ → Type 0
AllComeTo P history x pairs amount = (a : ℕ) → IsValue P x a → IsTrue (is_live history x a) → ComesTo P history pairs a (length pairs) (unary P history x a) amount

-- A live value of x asks so much of all the neighbours.
pub record IsAskedBy (P : Network) (history : List Event) (x : ℕ) (pairs : List Pair) (amount : ℕ) : Type 0 where
  pub value : ℕ
  pub is : IsValue P x value
  pub live : IsTrue (is_live history x value)
  pub asks : Asks P history x pairs value (length pairs) amount

-- The least amount that a live value of x asks, or what the floor lacks where that is less: all come to it, and one asks no more or
-- it is what the floor lacks.
pub record IsAsked (P : Network) (history : List Event) (k x : ℕ) (pairs : List Pair) (alpha : ℕ) : Type 0 where
  pub some : 0 < alpha
  pub below : floor P history + alpha ≤ k
  pub come : AllComeTo P history x pairs alpha
  pub least : IsAskedBy P history x pairs alpha ⊎ (floor P history + alpha ≡ k)

-- What is done to a variable that is not existential: the floor rises by the least amount that a live value of it asks of its
-- neighbours, or by what it lacks where that is less. It need not where the block had no room, or the variable has no live value.
pub record Raises (before after : Standing) (k x : ℕ) (result : Result (Unit {0}) Halt) : Type 0 where
  pub pairs : List Pair
  pub neighbours : AreNeighbours before.network (history before) x pairs
  pub amount : ℕ
  pub asked : IsAsked before.network (history before) k x pairs amount
  pub rise : HasLive before.network (history before) x → RisesBy before after amount result

-- Nothing is done to a variable that is.
abbrev pub RaisesUnlessExistential : Standing → Standing → ℕ → ℕ → Result (Unit {0}) Halt → Type 0
RaisesUnlessExistential before after k x result = (IsExistential before.network (history before) x × (after ≡ before)) ⊎ Raises before after k x result

-- How far the gathering of neighbours has come.
use Rattle.std.specs.Prelude.{◌≡◌, ℕ, ◌<◌, ◌≤◌, Bool, true, false, List, length, slice_index_or}
use Rattle.cfn_model.specs.declared.step.Event.{Event}
use Rattle.cfn_model.specs.Network.{Network, arity, variable_at}
use Rattle.cfn_consistency.specs.Openness.{HasOpenPair}
use Rattle.cfn_incidence.specs.declared.incidence.Place.{Place}
use Rattle.cfn_incidence.specs.Places.{place_at}
use Rattle.cfn_dac.specs.declared.pair.Pair.{Pair}
use Rattle.cfn_edac.specs.Neighbours.{IsNeighbour, IsReached, pair_at, other_of}

-- Whether a variable is marked.
abbrev pub is_met : List Bool → ℕ → Bool
is_met met y = slice_index_or met y false

-- No variable is marked.
pub record IsClear (P : Network) (met : List Bool) : Type 0 where
  pub size : length met ≡ length P.sizes
  pub none : (y : ℕ) → is_met met y ≡ false

-- Each variable that is marked is at the other end of one of the pairs from a number on.
pub record AreMarks (P : Network) (met : List Bool) (pairs : List Pair) (start : ℕ) : Type 0 where
  pub size : length met ≡ length P.sizes
  pub each : (y : ℕ) → is_met met y ≡ true → (k : ℕ) × (start ≤ k) × (k < length pairs) × (other_of P (pair_at pairs k) ≡ y)

-- The variables at the other ends of all pairs are marked.
abbrev pub AreMarked : Network → List Bool → List Pair → Type 0
AreMarked P met pairs = (k : ℕ) → k < length pairs → is_met met (other_of P (pair_at pairs k)) ≡ true

-- The first n places of x have given these neighbours: each is of one of those places, each open pair there is reached, and no two
-- are to the same variable.
pub record AreGathered (P : Network) (history : List Event) (x : ℕ) (places : List Place) (pairs : List Pair) (n : ℕ) : Type 0 where
  pub few : length pairs ≤ n
  pub each : (k : ℕ) → k < length pairs → IsNeighbour P history x (pair_at pairs k)
  pub from : (k : ℕ) → k < length pairs → (m : ℕ) × (m < n) × ((pair_at pairs k).function ≡ (place_at places m).function)
  pub once : (k m : ℕ) → k < length pairs → m < length pairs → other_of P (pair_at pairs k) ≡ other_of P (pair_at pairs m) → k ≡ m
  pub reached : (m j : ℕ) → m < n → HasOpenPair P history (place_at places m).function (place_at places m).place j → IsReached P pairs (place_at places m).function (variable_at P (place_at places m).function j)

-- A place's function has no open pair with it; or the pair is it.
abbrev pub HasNoNeighbour : Network → List Event → Place → Type 0
HasNoNeighbour P history p = (j : ℕ) → HasOpenPair P history p.function p.place j → ⊥

pub record IsNeighbourAt (P : Network) (history : List Event) (p : Place) (pair : Pair) : Type 0 where
  pub function : pair.function ≡ p.function
  pub place : pair.place ≡ p.place
  pub both : HasOpenPair P history pair.function pair.place pair.other

-- The pairs are places of functions.
abbrev pub ArePairs : Network → List Pair → Type 0
ArePairs P pairs = (k : ℕ) → k < length pairs → ((pair_at pairs k).function < length P.functions) × ((pair_at pairs k).other < arity P (pair_at pairs k).function)

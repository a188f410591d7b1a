-- Which variables of a function are open.
use Rattle.std.specs.Prelude.{◌≡◌, ℕ, ◌<◌, ◌≤◌, List, IsTrue, IsFalse}
use Rattle.cfn_model.specs.declared.step.Event.{Event}
use Rattle.cfn_model.specs.Network.{Network, arity, variable_at}
use Rattle.cfn_consistency.specs.Openness.{is_open, open_count, HasOpenPair}
use Rattle.cfn_dac.specs.declared.pair.Pair.{Pair}
use Rattle.cfn_dac.specs.declared.open.Opens.{Opens}
use Rattle.cfn_dac.specs.declared.open.Opens.TheVariants.{Few, Two, Many}

-- The open variables of f are two, and stand at these places, of which the first is the lower.
pub record AreTheOpen (P : Network) (history : List Event) (f i j : ℕ) : Type 0 where
  pub pair : HasOpenPair P history f i j
  pub order : i < j

-- How many variables of f are open, and where they stand where they are two.
abbrev pub HasOpens : Network → List Event → ℕ → Opens → Type 0
HasOpens P history f Few = open_count P history f ≤ 1
HasOpens P history f (Two i j) = AreTheOpen P history f i j
HasOpens P history f Many = 2 < open_count P history f

-- No place from one on has an open variable.
abbrev pub NoneOpenFrom : Network → List Event → ℕ → ℕ → Type 0
NoneOpenFrom P history f from = (i : ℕ) → from ≤ i → i < arity P f → IsFalse (is_open P history (variable_at P f i))

-- A place is the first from one on with an open variable.
pub record IsNextOpen (P : Network) (history : List Event) (f start i : ℕ) : Type 0 where
  pub from : start ≤ i
  pub place : i < arity P f
  pub here : IsTrue (is_open P history (variable_at P f i))
  pub first : (k : ℕ) → start ≤ k → k < i → IsFalse (is_open P history (variable_at P f k))

-- The open variables of f are not two.
abbrev pub NoOpenPair : Network → List Event → ℕ → Type 0
NoOpenPair P history f = (i j : ℕ) → HasOpenPair P history f i j → ⊥

-- The two open variables of f stand at a pair's places, the lower one first.
pub record IsLowerPair (P : Network) (history : List Event) (f : ℕ) (pair : Pair) : Type 0 where
  pub function : pair.function ≡ f
  pub opens : HasOpenPair P history f pair.place pair.other
  pub lower : variable_at P f pair.place < variable_at P f pair.other

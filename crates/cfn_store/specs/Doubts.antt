-- Values at a place of a function that may lack a live tuple that costs nothing.
use Rattle.std.specs.Prelude.{◌≡◌, ℕ, ◌<◌, ◌≤◌, List, MatchOption, IfSome, IsTrue}
use Rattle.cfn_model.specs.declared.step.Event.{Event}
use Rattle.cfn_model.specs.Network.{Network, arity, variable_at}
use Rattle.cfn_model.specs.Sums.{is_live}
use Rattle.cfn_model.specs.Steps.{IsPlace}
use Rattle.cfn_scan.specs.declared.line.Side.{Side}
use Rattle.cfn_scan.specs.declared.scan.Sense.TheVariants.{Least}
use Rattle.cfn_store.specs.declared.supports.Doubt.{Doubt}
use Rattle.cfn_scan.specs.Extremes.{NonePicked, IsExtreme, IsFree}
use Rattle.cfn_scan.specs.Lines.{IsSide}
use Rattle.cfn_store.specs.Standing.{Standing, history}

-- Each live value at place i of f from one number on, and before another, has a live tuple that costs nothing.
abbrev pub AreFreeBetween : Network → List Event → ℕ → ℕ → ℕ → ℕ → Type 0
AreFreeBetween P history f i from end = (a : ℕ) → from ≤ a → a < end → IsPlace P f i a → IsTrue (is_live history (variable_at P f i) a) → IsFree P history f i a

-- Each from a number on has one.
abbrev pub AreFreeFrom : Network → List Event → ℕ → ℕ → ℕ → Type 0
AreFreeFrom P history f i from = (a : ℕ) → from ≤ a → IsPlace P f i a → IsTrue (is_live history (variable_at P f i) a) → IsFree P history f i a

-- A live value there, before which each from a number on has one, and the least that its live tuples cost.
pub record IsDoubt (P : Network) (history : List Event) (f i from : ℕ) (doubt : Doubt) : Type 0 where
  pub behind : from ≤ doubt.value
  pub place : IsPlace P f i doubt.value
  pub live : IsTrue (is_live history (variable_at P f i) doubt.value)
  pub passed : AreFreeBetween P history f i from doubt.value
  pub least : MatchOption doubt.least (NonePicked P history f i doubt.value) (IsExtreme P history f i doubt.value Least)

-- Such a value of which no live tuple costs nothing.
pub record IsLacking (P : Network) (history : List Event) (f i from : ℕ) (doubt : Doubt) : Type 0 where
  pub is : IsDoubt P history f i from doubt
  pub lacks : IfSome doubt.least (λ extreme. 0 < extreme.cost)

-- A function of two variables is seen from a place.
abbrev pub IsSeen : Standing → ℕ → ℕ → Side → Type 0
IsSeen s f i side = (arity s.network f ≡ 2) × ((other : ℕ) → other < arity s.network f → (i ≡ other → ⊥) → IsSide s.network (history s) f i other side)

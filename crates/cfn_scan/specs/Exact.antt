-- When 64 bits tell the costs of what is live exactly.
use Rattle.std.specs.Prelude.{ℕ, ◌<◌, ◌^◌, List, [], ◌∷◌, length, pos, ◌≤ℤ◌, IsTrue}
use Rattle.cfn_model.specs.declared.step.Event.{Event}
use Rattle.cfn_model.specs.declared.step.Event.TheVariants.{Did, Took, Refused}
use Rattle.cfn_model.specs.Network.{Network, Fits, dims_at}
use Rattle.cfn_model.specs.Sums.{lifted, unary, residual, is_live, is_live_tuple}
use Rattle.cfn_model.specs.Steps.{IsValue, IsDecision, InRange}
use Rattle.cfn_model.specs.Paths.{HasSmallCosts}

-- The numbers of an event are in range.
abbrev pub InPlace : Network → Event → Type 0
InPlace P (Did step) = InRange P step
InPlace P (Took d) = IsDecision P d
InPlace P (Refused d) = IsDecision P d

abbrev pub AllInPlace : Network → List Event → Type 0
AllInPlace P [] = Unit {0}
AllInPlace P (event ∷ history) = InPlace P event × AllInPlace P history

-- No unary cost of a live value and no residual cost of a live tuple is below 0.
pub record HasNoDebts (P : Network) (history : List Event) : Type 0 where
  pub unary : (x a : ℕ) → IsValue P x a → IsTrue (is_live history x a) → pos 0 ≤ℤ unary P history x a
  pub residual : (f : ℕ) (tuple : List ℕ) → f < length P.functions → Fits (dims_at P f) tuple → IsTrue (is_live_tuple P history f tuple) → pos 0 ≤ℤ residual P history f tuple

-- Costs of what is live are at least 0 and below 2^64, and all numbers are in range. And this all along a history.
pub record IsExact (P : Network) (history : List Event) : Type 0 where
  pub small : HasSmallCosts P history
  pub no_debts : HasNoDebts P history
  pub range : AllInPlace P history

abbrev pub IsExactAlong : Network → List Event → Type 0
IsExactAlong P [] = IsExact P []
IsExactAlong P (event ∷ history) = IsExact P (event ∷ history) × IsExactAlong P history

-- What is lifted at once fits 64 bits, so that the floor fits 128.
abbrev pub LiftsFit : List Event → Type 0
LiftsFit [] = Unit {0}
LiftsFit (event ∷ history) = (lifted event < 2 ^ 64) × LiftsFit history

-- The greatest unary cost of a variable's live values, where a store remembers it.
use Rattle.std.specs.Prelude.{◌≡◌, ℕ, ◌-◌, ◌^◌, ◌<◌, ◌≤◌, Bool, true, false, List, length, slice_index, pos, ◌≤ℤ◌, IsTrue, ◌==◌}
use Rattle.cfn_model.specs.declared.step.Step.TheVariants.{Project, Extend, Lift, CutValue, CutTuple}
use Rattle.cfn_model.specs.declared.step.Event.{Event}
use Rattle.cfn_model.specs.declared.step.Event.TheVariants.{Did, Took, Refused}
use Rattle.cfn_model.specs.Decisions.{variable_of}
use Rattle.cfn_model.specs.Network.{Network, variable_at}
use Rattle.cfn_model.specs.Sums.{unary, is_live}
use Rattle.cfn_model.specs.Steps.{IsValue}

-- No live value of x costs more than the peak, and one of them costs nothing.
pub record HasPeak (P : Network) (history : List Event) (x peak : ℕ) : Type 0 where
  pub within : (a : ℕ) → IsValue P x a → IsTrue (is_live history x a) → unary P history x a ≤ℤ pos peak
  pub free : ℕ
  pub value : IsValue P x free
  pub live : IsTrue (is_live history x free)
  pub nothing : unary P history x free ≡ pos 0

-- The word of a peak that is not known.
abbrev pub unknown : ℕ
unknown = 2 ^ 64 - 1

-- There is a word for each variable, and each that is known is its peak.
pub record ArePeaks (P : Network) (history : List Event) (peaks : List ℕ) : Type 0 where
  pub size : length peaks ≡ length P.sizes
  pub each : (x : ℕ) → x < length P.sizes → slice_index peaks x < unknown → HasPeak P history x (slice_index peaks x)

-- Whether an event changes a unary cost of x, or which of its values are live.
abbrev pub changes : Network → Event → ℕ → Bool
changes P (Did (Project f i a m)) x = variable_at P f i == x
changes P (Did (Extend f i a m)) x = variable_at P f i == x
changes P (Did (Lift y m)) x = y == x
changes P (Did (CutValue y a)) x = y == x
changes P (Did (CutTuple f c)) x = false
changes P (Took d) x = variable_of d == x
changes P (Refused d) x = variable_of d == x

-- The peak of what an event changes is not known any more, and the others stay.
pub record AreForgotten (P : Network) (event : Event) (old new : List ℕ) : Type 0 where
  pub size : length new ≡ length old
  pub gone : (x : ℕ) → x < length old → changes P event x ≡ true → slice_index new x ≡ unknown
  pub still : (x : ℕ) → changes P event x ≡ false → slice_index new x ≡ slice_index old x

-- Each variable from one number up to another has a peak below a bound.
abbrev pub AreLow : Network → List Event → ℕ → ℕ → ℕ → Type 0
AreLow P history from to bound = (x : ℕ) → from ≤ x → x < to → x < length P.sizes → (peak : ℕ) × (peak < bound) × HasPeak P history x peak

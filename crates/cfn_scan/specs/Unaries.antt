-- The unary costs of a variable's values, read from the words that a store keeps.
use Rattle.std.specs.Prelude.{◌≡◌, ℕ, List, length, slice_index, pos, ◌+ℤ◌}
use Rattle.cfn_model.specs.declared.step.Event.{Event}
use Rattle.cfn_model.specs.Network.{Network}
use Rattle.cfn_model.specs.Sums.{unary}
use Rattle.cfn_model.specs.Steps.{IsValue}
use Rattle.cfn_scan.specs.declared.unaries.Unaries.{Unaries}
use Rattle.cfn_scan.specs.Exact.{IsExact}
use Rattle.cfn_scan.specs.Wrapped.{StandsFor}

-- There is a word for each value of x, which stands for its unary cost and what was lifted from x; costs of what is live are
-- exact.
pub record AreUnaries (P : Network) (history : List Event) (x : ℕ) (unaries : Unaries) : Type 0 where
  pub exact : IsExact P history
  pub values : length unaries.given.now ≡ slice_index P.sizes x
  pub words : (a : ℕ) → IsValue P x a → StandsFor (slice_index unaries.given.now a) (unary P history x a +ℤ pos unaries.lifted)

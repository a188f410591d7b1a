-- The values at one place of a function.
use Rattle.std.specs.Prelude.{ℕ, List, IsTrue}
use Rattle.cfn_model.specs.declared.step.Event.{Event}
use Rattle.cfn_model.specs.Network.{Network, variable_at}
use Rattle.cfn_model.specs.Sums.{is_live}
use Rattle.cfn_model.specs.Steps.{IsPlace}
use Rattle.cfn_consistency.specs.Consistency.{HasSupport}

-- Each live value at place i of f has a support.
abbrev pub AreSupported : Network → List Event → ℕ → ℕ → Type 0
AreSupported P history f i = (a : ℕ) → IsPlace P f i a → IsTrue (is_live history (variable_at P f i) a) → HasSupport P history f i a

-- Two places of a function, and full supports with regard to them (Cooper et al. 2010).
use Rattle.std.specs.Prelude.{◌≡◌, ℕ, ◌<◌, List, length, slice_index, ℤ, pos, ◌+ℤ◌, ◌<ℤ◌, IsTrue}
use Rattle.cfn_model.specs.declared.step.Event.{Event}
use Rattle.cfn_model.specs.Network.{Network, arity, variable_at}
use Rattle.cfn_model.specs.Sums.{unary, residual, is_live}
use Rattle.cfn_model.specs.Steps.{IsPlace}
use Rattle.cfn_consistency.specs.Consistency.{HasFullSupport}
use Rattle.cfn_dac.specs.declared.pair.Pair.{Pair}

-- A pair's places are two of one function.
pub record IsPair (P : Network) (pair : Pair) : Type 0 where
  pub function : pair.function < length P.functions
  pub place : pair.place < arity P pair.function
  pub other : pair.other < arity P pair.function
  pub different : pair.place ≡ pair.other → ⊥

-- The variables at the two places.
abbrev pub first_of : Network → Pair → ℕ
first_of P pair = variable_at P pair.function pair.place

abbrev pub second_of : Network → Pair → ℕ
second_of P pair = variable_at P pair.function pair.other

-- Each live value of the first variable whose unary cost is below an amount has a full support.
abbrev pub AreFullBelow : Network → List Event → Pair → ℕ → Type 0
AreFullBelow P history pair alpha =
    (a : ℕ) → IsPlace P pair.function pair.place a → IsTrue (is_live history (first_of P pair) a) → unary P history (first_of P pair) a <ℤ pos alpha → HasFullSupport P history pair.function pair.place pair.other a

-- What a tuple costs together with its value at the second place.
abbrev pub total : Network → List Event → Pair → List ℕ → ℤ
total P history pair tuple = residual P history pair.function tuple +ℤ unary P history (second_of P pair) (slice_index tuple pair.other)

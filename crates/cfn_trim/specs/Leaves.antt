-- The leaf of one assignment, and the steps that close it.
use Rattle.std.specs.Prelude.{◌≡◌, ℕ, ◌+◌, ◌<◌, ◌≤◌, List, [], ◌∷◌, ◌++◌, length, slice_index, IsTrue}
use Rattle.cfn_model.specs.declared.step.Step.{Step}
use Rattle.cfn_model.specs.declared.step.Step.TheVariants.{Project, Extend, Lift, CutValue, CutTuple}
use Rattle.cfn_model.specs.Network.{Fits, cost}
use Rattle.cfn_model.specs.Sums.{is_live}
use Rattle.cfn_model.specs.Steps.{IsValue, Run}
use Rattle.cfn_store.specs.Standing.{Standing, history}

-- The one live value of each variable is an assignment's, which costs at least k.
pub record IsLeaf (s : Standing) (values : List ℕ) (k : ℕ) : Type 0 where
  pub fits : Fits s.network.sizes values
  pub live : (x : ℕ) → x < length s.network.sizes → IsTrue (is_live (history s) x (slice_index values x))
  pub only : (x a : ℕ) → IsValue s.network x a → IsTrue (is_live (history s) x a) → a ≡ slice_index values x
  pub dear : k ≤ cost s.network values

-- A project or a lift.
abbrev pub IsPlain : Step → Type 0
IsPlain (Project f i a m) = Unit {0}
IsPlain (Extend f i a m) = ⊥
IsPlain (Lift x m) = Unit {0}
IsPlain (CutValue x a) = ⊥
IsPlain (CutTuple f c) = ⊥

abbrev pub ArePlain : List Step → Type 0
ArePlain [] = Unit {0}
ArePlain (step ∷ steps) = IsPlain step × ArePlain steps

-- Between two standings there are projects and lifts alone, which run at every threshold.
pub record AddsShifts (before after : Standing) : Type 0 where
  pub network : after.network ≡ before.network
  pub base : after.base ≡ before.base
  pub steps : List Step
  pub block : after.block ≡ before.block ++ steps
  pub runs : (k : ℕ) → Run before.network (history before) steps k
  pub plain : ArePlain steps
  pub spare : after.spare + length steps ≡ before.spare

-- The weights of functions.
use Rattle.std.specs.Prelude.{◌≡◌, ℕ, ◌+◌, ◌<◌, ◌≤◌, ◌⊎◌, min, List, ◌∷◌, ◌++◌, length, slice_index, slice_set}
use Rattle.std.specs.List.{AllByRecursion}
use Rattle.cfn_model.specs.declared.step.Step.{Step}
use Rattle.cfn_model.specs.declared.step.Step.TheVariants.{Project, Extend, Lift, CutValue, CutTuple}
use Rattle.cfn_branch.specs.declared.weights.TheConstants.{MOST_WEIGHT}

-- A weight is from 1 to the greatest.
abbrev pub IsWeight : ℕ → Type 0
IsWeight weight = (1 ≤ weight) × (weight ≤ MOST_WEIGHT)

abbrev pub AreWeights : List ℕ → Type 0
AreWeights weights = (f : ℕ) → f < length weights → IsWeight (slice_index weights f)

-- The weights once f was to blame: its own is greater by one, or the greatest, and each other is as it was.
abbrev pub blamed : List ℕ → ℕ → List ℕ
blamed weights f = slice_set weights f (min (slice_index weights f + 1) MOST_WEIGHT)

-- A step is a project of f.
abbrev pub Projects : ℕ → Step → Type 0
Projects f (Project g i a m) = g ≡ f
Projects f (Extend g i a m) = ⊥
Projects f (Lift x m) = ⊥
Projects f (CutValue x a) = ⊥
Projects f (CutTuple g c) = ⊥

-- None of some steps is a project; and the newest project among them, the oldest first, is one of f.
abbrev pub NoneProjects : List Step → Type 0
NoneProjects steps = AllByRecursion (λ step. (f : ℕ) → Projects f step → ⊥) steps

pub record IsNewestProject (steps : List Step) (f : ℕ) : Type 0 where
  pub before : List Step
  pub step : Step
  pub later : List Step
  pub steps_is : steps ≡ before ++ step ∷ later
  pub projects : Projects f step
  pub newest : NoneProjects later

-- The weights once the function of the newest project among some steps was to blame, where there is one.
abbrev pub Blames : List Step → List ℕ → List ℕ → Type 0
Blames steps old new = (NoneProjects steps × (new ≡ old)) ⊎ ((f : ℕ) × IsNewestProject steps f × (new ≡ blamed old f))

-- What an expansion leaves of the weights of functions.
use Rattle.std.specs.Prelude.{◌≡◌, ℕ, ◌≤◌, ◌⊎◌, List, length}
use Rattle.cfn_model.specs.declared.step.Step.{Step}
use Rattle.cfn_model.specs.declared.step.Event.{Event}
use Rattle.cfn_model.specs.Network.{Network}
use Rattle.cfn_model.specs.Steps.{Run, after}
use Rattle.cfn_model.specs.Tree.{CanClose}
use Rattle.cfn_consistency.specs.Consistency.{AreFullyConsistent}
use Rattle.cfn_branch.specs.Weighing.{Blames}
use Rattle.cfn_dive.specs.Growing.{InGroups}
use Rattle.cfn_dive.specs.Limit.{step_limit}

-- Behind some steps the leaf can be closed, and the function of the newest project among them is to blame.
abbrev pub IsDeadEnd : Network → List Event → ℕ → List Step → List ℕ → List ℕ → Type 0
IsDeadEnd P path k steps old new = CanClose P (after steps path) k × Blames steps old new

-- Behind some steps the network is fully consistent, or they are as many as a node may make; the leaf can't be closed, and no
-- function is to blame.
abbrev pub IsNoDeadEnd : Network → List Event → ℕ → List Step → List ℕ → List ℕ → Type 0
IsNoDeadEnd P path k steps old new = (AreFullyConsistent P (after steps path) k ⊎ (step_limit P ≤ length steps)) × (CanClose P (after steps path) k → ⊥) × (new ≡ old)

-- At a leaf steps were made that run at a threshold between two and fall into groups, each of which gains something; and the
-- weights are what these steps make of them.
pub record IsWeighed (P : Network) (path : List Event) (least most : ℕ) (old new : List ℕ) : Type 0 where
  pub threshold : ℕ
  pub above : least ≤ threshold
  pub below : threshold ≤ most
  pub steps : List Step
  pub runs : Run P path steps threshold
  pub groups : InGroups P path steps
  pub ends : IsDeadEnd P path threshold steps old new ⊎ IsNoDeadEnd P path threshold steps old new

-- Search trees in which some leaves are those of listed assignments.
use Rattle.std.specs.Prelude.{◌≡◌, ℕ, ◌<◌, min, List, [], ◌∷◌, length, slice_index, slice_index_or, IsTrue}
use Rattle.cfn_model.specs.declared.step.Step.{Step}
use Rattle.cfn_model.specs.declared.step.Decision.{Decision}
use Rattle.cfn_model.specs.declared.step.Event.{Event}
use Rattle.cfn_model.specs.declared.step.Event.TheVariants.{Took, Refused}
use Rattle.cfn_model.specs.Network.{Network}
use Rattle.cfn_model.specs.Sums.{floor, is_live}
use Rattle.cfn_model.specs.Steps.{IsDecision, Run, after}
use Rattle.cfn_model.specs.Tree.{CanClose}
use Rattle.cfn_model.specs.Certificate.{Solution}

pub data ListTree : Type 0 where
  Open : (block : List Step) → ListTree
  Closed : (block : List Step) → ListTree
  Listed : (block : List Step) (number : ℕ) → ListTree
  Split : (block : List Step) (decision : Decision) (first second : ListTree) → ListTree

-- The assignment of a list with a number, counted from 0, where there is one.
abbrev pub solution_at : List Solution → ℕ → Solution
solution_at list j = slice_index_or list j (record { cost = 0; values = [] })

-- A leaf is that of the listed assignment with a number: there is one, and no value but its own is live.
pub record IsLeafOf (P : Network) (list : List Solution) (history : List Event) (j : ℕ) : Type 0 where
  pub number : j < length list
  pub only : (x a : ℕ) → x < length P.sizes → a < slice_index P.sizes x → IsTrue (is_live history x a) → a ≡ slice_index (solution_at list j).values x

-- Every block runs, splits are in range, closed leaves may be closed, and listed leaves are those of their assignments.
abbrev pub IsValid : Network → List Solution → List Event → ListTree → ℕ → Type 0
IsValid P list history (Open block) k = Run P history block k
IsValid P list history (Closed block) k = Run P history block k × CanClose P (after block history) k
IsValid P list history (Listed block j) k = Run P history block k × IsLeafOf P list (after block history) j
IsValid P list history (Split block d first second) k =
    Run P history block k × IsDecision P d × IsValid P list (Took d ∷ after block history) first k × IsValid P list (Refused d ∷ after block history) second k

-- The least of the threshold and the floors of the open leaves.
abbrev pub bound : Network → List Event → ListTree → ℕ → ℕ
bound P history (Open block) k = min k (floor P (after block history))
bound P history (Closed block) k = k
bound P history (Listed block j) k = k
bound P history (Split block d first second) k = min (bound P (Took d ∷ after block history) first k) (bound P (Refused d ∷ after block history) second k)

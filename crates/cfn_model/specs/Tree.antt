-- Search trees: blocks of steps, each before an open leaf, a closed leaf or a split.
use Rattle.std.specs.Prelude.{ℕ, ◌+◌, ◌<◌, ◌≤◌, ◌⊎◌, min, List, ◌∷◌, length, slice_index, if◌then◌else◌, IsTrue, IsFalse}
use Rattle.cfn_model.specs.declared.step.Step.{Step}
use Rattle.cfn_model.specs.declared.step.Decision.{Decision}
use Rattle.cfn_model.specs.declared.step.Event.{Event}
use Rattle.cfn_model.specs.declared.step.Event.TheVariants.{Took, Refused}
use Rattle.cfn_model.specs.Network.{Network}
use Rattle.cfn_model.specs.Decisions.{variable_of, keeps, holds}
use Rattle.cfn_model.specs.Sums.{floor, is_live}
use Rattle.cfn_model.specs.Steps.{IsDecision, Run, after}

pub data Tree : Type 0 where
  Open : (block : List Step) → Tree
  Closed : (block : List Step) → Tree
  Split : (block : List Step) (decision : Decision) (first second : Tree) → Tree

-- The leaf of an assignment: at each split the first side where the decision holds, and else the second.
abbrev pub leaf : List ℕ → Tree → Tree
leaf values (Open block) = Open block
leaf values (Closed block) = Closed block
leaf values (Split block d first second) = if holds d values then leaf values first else leaf values second

-- What stands before the end of that leaf, where a history stands before the tree.
abbrev pub leaf_history : List ℕ → List Event → Tree → List Event
leaf_history values history (Open block) = after block history
leaf_history values history (Closed block) = after block history
leaf_history values history (Split block d first second) =
    if holds d values then leaf_history values (Took d ∷ after block history) first else leaf_history values (Refused d ∷ after block history) second

abbrev pub IsOpen : Tree → Type 0
IsOpen (Open block) = Unit {0}
IsOpen (Closed block) = ⊥
IsOpen (Split block d first second) = ⊥

abbrev pub IsClosed : Tree → Type 0
IsClosed (Open block) = ⊥
IsClosed (Closed block) = Unit {0}
IsClosed (Split block d first second) = ⊥

-- The number of splits and closed leaves.
abbrev pub count : Tree → ℕ
count (Open block) = 0
count (Closed block) = 1
count (Split block d first second) = 1 + (count first + count second)

-- The number of splits.
abbrev pub splits : Tree → ℕ
splits (Open block) = 0
splits (Closed block) = 0
splits (Split block d first second) = 1 + (splits first + splits second)

-- The number of open leaves.
abbrev pub open_leaves : Tree → ℕ
open_leaves (Open block) = 1
open_leaves (Closed block) = 0
open_leaves (Split block d first second) = open_leaves first + open_leaves second

-- A variable has no live value.
abbrev pub IsWiped : Network → List Event → Type 0
IsWiped P history = (x : ℕ) × (x < length P.sizes) × ((a : ℕ) → a < slice_index P.sizes x → IsFalse (is_live history x a))

-- A leaf may be closed: the floor reaches the threshold, or a variable has no live value.
abbrev pub CanClose : Network → List Event → ℕ → Type 0
CanClose P history k = (k ≤ floor P history) ⊎ IsWiped P history

-- Every block runs, splits are in range, and closed leaves may be closed.
abbrev pub Valid : Network → List Event → Tree → ℕ → Type 0
Valid P history (Open block) k = Run P history block k
Valid P history (Closed block) k = Run P history block k × CanClose P (after block history) k
Valid P history (Split block d first second) k =
    Run P history block k × IsDecision P d × Valid P (Took d ∷ after block history) first k × Valid P (Refused d ∷ after block history) second k

-- A split leaves a live value on either side.
pub record IsStrictSplit (P : Network) (history : List Event) (d : Decision) : Type 0 where
  pub first : (a : ℕ) × (a < slice_index P.sizes (variable_of d)) × IsTrue (keeps d a) × IsTrue (is_live history (variable_of d) a)
  pub second : (b : ℕ) × (b < slice_index P.sizes (variable_of d)) × IsFalse (keeps d b) × IsTrue (is_live history (variable_of d) b)

-- Every split is strict.
abbrev pub Strict : Network → List Event → Tree → Type 0
Strict P history (Open block) = Unit {0}
Strict P history (Closed block) = Unit {0}
Strict P history (Split block d first second) =
    IsStrictSplit P (after block history) d × Strict P (Took d ∷ after block history) first × Strict P (Refused d ∷ after block history) second

-- The least of the threshold and the floors of the open leaves.
abbrev pub bound : Network → List Event → Tree → ℕ → ℕ
bound P history (Open block) k = min k (floor P (after block history))
bound P history (Closed block) k = k
bound P history (Split block d first second) k =
    min (bound P (Took d ∷ after block history) first k) (bound P (Refused d ∷ after block history) second k)

-- Every open leaf has a floor below the threshold.
abbrev pub OpenBelow : Network → List Event → Tree → ℕ → Type 0
OpenBelow P history (Open block) k = floor P (after block history) < k
OpenBelow P history (Closed block) k = Unit {0}
OpenBelow P history (Split block d first second) k =
    OpenBelow P (Took d ∷ after block history) first k × OpenBelow P (Refused d ∷ after block history) second k

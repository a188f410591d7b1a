-- What kept, joined and merged trees have.
use Rattle.std.specs.Prelude.{◌≡◌, ℕ, ◌≤◌, true, List, ◌∷◌}
use Rattle.std.specs.List.{AllByRecursion}
use Rattle.cfn_model.specs.declared.step.Step.{Step}
use Rattle.cfn_model.specs.declared.step.Decision.{Decision}
use Rattle.cfn_model.specs.declared.step.Event.{Event}
use Rattle.cfn_model.specs.Network.{Network, IsNetwork}
use Rattle.cfn_model.specs.Paths.{Tame}
use Rattle.cfn_model.specs.Sums.{floor}
use Rattle.cfn_model.specs.Tree.{Tree, Valid, Strict, bound}
use Rattle.cfn_model.specs.Certificate.{Certificate, Good}
use Rattle.cfn_model.specs.Text.{IsSpelled}
use Rattle.cfn_mending.specs.Keeping.{Kept}
use Rattle.cfn_mending.specs.Joining.{Test, capped, height, join}
use Rattle.cfn_mending.specs.Merging.{merged, anew, all_merged}

-- ---- what is kept of a tree

-- A tree is well formed at a threshold: valid, strict, and with small costs all along.
pub record IsWell (P : Network) (history : List Event) (k : ℕ) (tree : Tree) : Type 0 where
  pub valid : Valid P history tree k
  pub strict : Strict P history tree
  pub tame : Tame P history tree

-- What is kept is well formed, whatever the tree was.
abbrev pub KeptIsWell : Type 0
KeptIsWell = (P : Network) (history : List Event) (k : ℕ) (old new : Tree) → Kept P history k old new → IsWell P history k new

-- One tree is what is kept.
abbrev pub KeptOnce : Type 0
KeptOnce = (P : Network) (history : List Event) (k : ℕ) (old new other : Tree) → Kept P history k old new → Kept P history k old other → new ≡ other

-- All of a tree is kept that is well formed: so nothing is lost where the network has not changed.
abbrev pub KeepsAll : Type 0
KeepsAll = (P : Network) (history : List Event) (k : ℕ) (old new : Tree) → IsWell P history k old → Kept P history k old new → new ≡ old

-- ---- what is joined

-- A test for one split says yes only to the same block and the same decision.
abbrev pub IsTest : Test → Type 0
IsTest same = (block more : List Step) (d e : Decision) → same block d more e ≡ true → (block ≡ more) × (d ≡ e)

-- A joined tree is valid where both are.
abbrev pub JoinValid : Type 0
JoinValid = (P : Network) (same : Test) (history : List Event) (x y : Tree) (k : ℕ) → IsTest same → Valid P history x k → Valid P history y k → Valid P history (join same x y) k

-- Its bound is at least that of each.
abbrev pub JoinBound : Type 0
JoinBound = (P : Network) (same : Test) (history : List Event) (x y : Tree) (k : ℕ) → IsTest same →
    (bound P history x k ≤ bound P history (join same x y) k) × (bound P history y k ≤ bound P history (join same x y) k)

-- A tree's bound is what its height comes to behind the floor, or the threshold.
abbrev pub BoundOfHeight : Type 0
BoundOfHeight = (P : Network) (history : List Event) (x : Tree) (k : ℕ) → bound P history x k ≡ capped k (floor P history) (height x)

-- A merged certificate is good where both are.
abbrev pub MergedGood : Type 0
MergedGood = (same : Test) (P : Network) (c d : Certificate) → IsTest same → IsNetwork P → Good P c → Good P d → Good P (merged same P c d)

-- Its lower bound is at least that of each.
abbrev pub MergedLower : Type 0
MergedLower = (same : Test) (P : Network) (c d : Certificate) → IsTest same → IsNetwork P → Good P c → Good P d → (c.lower ≤ (merged same P c d).lower) × (d.lower ≤ (merged same P c d).lower)

-- What certificates come to that are merged one after another is good where each is.
abbrev pub AllMergedGood : Type 0
AllMergedGood = (same : Test) (P : Network) (c : Certificate) (others : List Certificate) → IsTest same → IsNetwork P → Good P c → AllByRecursion (Good P) others → Good P (all_merged same P c others)

-- Its lower bound is at least that of each.
abbrev pub AllMergedLower : Type 0
AllMergedLower = (same : Test) (P : Network) (c : Certificate) (others : List Certificate) → IsTest same → IsNetwork P → Good P c → AllByRecursion (Good P) others →
    AllByRecursion (λ d. d.lower ≤ (all_merged same P c others).lower) (c ∷ others)

-- It has a spelling where each has.
abbrev pub AllMergedSpelled : Type 0
AllMergedSpelled = (same : Test) (P : Network) (c : Certificate) (others : List Certificate) → IsTest same → IsNetwork P → Good P c → AllByRecursion (Good P) others → IsSpelled c → AllByRecursion IsSpelled others → IsSpelled (all_merged same P c others)

-- Its lower bound is its tree's bound.
abbrev pub AllMergedAnew : Type 0
AllMergedAnew = (same : Test) (P : Network) (c : Certificate) (others : List Certificate) → all_merged same P c others ≡ anew P (all_merged same P c others)

-- Parts of a search: which open leaves of a tree a part has, and where the others are.
use Rattle.std.specs.Prelude.{◌≡◌, ℕ, ◌+◌, ◌<◌, ◌≤◌, ◌⊎◌, ◌%◌, ◌==◌, Bool, true, false, List, [], ◌∷◌, ◌++◌, Contains, Option, Some, None, if◌then◌else◌}
use Rattle.cfn_model.specs.declared.step.Event.{Event}
use Rattle.cfn_model.specs.declared.step.Event.TheVariants.{Took, Refused}
use Rattle.cfn_model.specs.Network.{Network}
use Rattle.cfn_model.specs.Sums.{floor}
use Rattle.cfn_model.specs.Steps.{after}
use Rattle.cfn_model.specs.Tree.{Tree, Open, Closed, Split, open_leaves}
use Rattle.cfn_machine.specs.declared.part.Part.{Part}
use Rattle.cfn_machine.specs.Pool.{Mark, PoolTree, Out, IsLeaf, active_mark}

-- It is one of its parts.
abbrev pub IsPart : Part → Type 0
IsPart part = part.number < part.parts

-- Whether a part has the leaf with a number: leaves are dealt by turns. A search that is no part has all.
abbrev pub has_leaf : Option Part → ℕ → Bool
has_leaf None n = true
has_leaf (Some part) n = n % part.parts == part.number

-- The paths of the open leaves that are left to others, in the order of the tree's text, behind a history. The leaves have the
-- numbers from next on.
abbrev pub others_from : (ℕ → Bool) → ℕ → List Event → Tree → List (List Event)
others_from mine next history (Open block) = if mine next then [] else after block history ∷ []
others_from mine next history (Closed block) = []
others_from mine next history (Split block d first second) =
    others_from mine next (Took d ∷ after block history) first ++ others_from mine (next + open_leaves first) (Refused d ∷ after block history) second

abbrev pub others_of : Option Part → Tree → List (List Event)
others_of part tree = others_from (has_leaf part) 0 [] tree

-- A leaf with this path is set aside.
abbrev pub IsAside : PoolTree → List Event → Type 0
IsAside tree path = (n : ℕ) × (worker : ℕ) × IsLeaf tree [] n (Out worker 0) path

-- A leaf of the tree, open or closed, ends at this path, where a history stands before the tree.
abbrev pub EndsAt : Tree → List Event → List Event → Type 0
EndsAt (Open block) history path = path ≡ after block history
EndsAt (Closed block) history path = path ≡ after block history
EndsAt (Split block d first second) history path = EndsAt first (Took d ∷ after block history) path ⊎ EndsAt second (Refused d ∷ after block history) path

-- An open leaf of the tree ends at this path, where a history stands before the tree.
abbrev pub OpenAt : Tree → List Event → List Event → Type 0
OpenAt (Open block) history path = path ≡ after block history
OpenAt (Closed block) history path = ⊥
OpenAt (Split block d first second) history path = OpenAt first (Took d ∷ after block history) path ⊎ OpenAt second (Refused d ∷ after block history) path

-- Some open leaf is a search's own: its path is none of those that were set aside.
abbrev pub HasOwn : List (List Event) → Tree → Type 0
HasOwn aside tree = (path : List Event) × OpenAt tree [] path × (Contains aside path → ⊥)

-- Every open leaf is others': its path is one of those that were set aside.
abbrev pub AllOthers : List (List Event) → Tree → Type 0
AllOthers aside tree = (path : List Event) → OpenAt tree [] path → Contains aside path

-- What it says whether some open leaf is a search's own.
abbrev pub TellsOwn : Bool → List (List Event) → Tree → Type 0
TellsOwn true aside tree = HasOwn aside tree
TellsOwn false aside tree = AllOthers aside tree

-- In the pool: an open leaf that is not set aside has a floor below a threshold; or none has.
abbrev pub HasActiveBelow : Network → PoolTree → ℕ → Type 0
HasActiveBelow P tree k = (n : ℕ) × (mark : Mark) × (path : List Event) × IsLeaf tree [] n mark path × (active_mark mark ≡ 1) × (floor P path < k)

abbrev pub NoneActiveBelow : Network → PoolTree → ℕ → Type 0
NoneActiveBelow P tree k = (n : ℕ) (mark : Mark) (path : List Event) → IsLeaf tree [] n mark path → active_mark mark ≡ 1 → k ≤ floor P path

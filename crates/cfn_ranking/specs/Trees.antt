-- What a list of nodes means as a tree with listed leaves, where a number beside an open leaf says which listed assignment
-- the leaf is that of.
use Rattle.std.specs.Prelude.{◌≡◌, ℕ, ◌+◌, ◌-◌, ◌<◌, List, [], ◌∷◌, length, slice_index_or, Option, Some, None}
use Rattle.cfn_model.specs.declared.step.Step.{Step}
use Rattle.cfn_model.specs.declared.step.Event.{Event}
use Rattle.cfn_model.specs.declared.step.Event.TheVariants.{Took, Refused}
use Rattle.cfn_model.specs.Network.{Network}
use Rattle.cfn_model.specs.Sums.{floor}
use Rattle.cfn_model.specs.Steps.{after}
use Rattle.cfn_model.specs.Tree as trees
use Rattle.cfn_proof.specs.declared.tree.End.{End}
use Rattle.cfn_proof.specs.declared.tree.End.TheVariants as ends
use Rattle.cfn_proof.specs.declared.tree.Node.{Node}
use Rattle.cfn_proof.specs.Nodes.{IsFree}
use Rattle.cfn_best.specs.Tree.{ListTree, Open, Closed, Listed, Split}

-- A leaf that is not closed: open, or that of the listed assignment with the number.
abbrev pub leaf_of : List Step → Option ℕ → ListTree
leaf_of block None = Open block
leaf_of block (Some j) = Listed block j

-- A node as a tree, over the trees of what its children's numbers name. Only of an open leaf does the number count.
abbrev pub with_listed : List Step → End → Option ℕ → (ℕ → ListTree) → ListTree
with_listed block ends.Free number child = leaf_of block number
with_listed block ends.Shut number child = Closed block
with_listed block (ends.Split d first second) number child = Split block d (child first.number) (child second.number)

-- The number beside a node, where there is one.
abbrev pub number_at : List (Option ℕ) → ℕ → Option ℕ
number_at numbers i = slice_index_or numbers i None

-- The number beside an open leaf is that of one of so many listed assignments.
abbrev pub NumbersAreThere : List Node → List (Option ℕ) → ℕ → Type 0
NumbersAreThere nodes numbers many = (i j : ℕ) → i < length nodes → IsFree nodes i → number_at numbers i ≡ Some j → j < many

-- The trees of the nodes from the number base on, each made of trees behind it.
abbrev pub listed_from : List (Option ℕ) → ℕ → List Node → List ListTree
listed_from numbers base [] = []
listed_from numbers base (node ∷ nodes) =
    with_listed node.block node.end (number_at numbers base) (λ i. slice_index_or (listed_from numbers (base + 1) nodes) (i - (base + 1)) (Open [])) ∷ listed_from numbers (base + 1) nodes

-- The tree that begins at a node, and the whole tree.
abbrev pub listed_at : List Node → List (Option ℕ) → ℕ → ListTree
listed_at nodes numbers i = slice_index_or (listed_from numbers 0 nodes) i (Open [])

abbrev pub listed_of : List Node → List (Option ℕ) → ListTree
listed_of nodes numbers = listed_at nodes numbers 0

-- The tree in which each listed leaf is an open leaf.
abbrev pub plain : ListTree → trees.Tree
plain (Open block) = trees.Open block
plain (Closed block) = trees.Closed block
plain (Listed block j) = trees.Open block
plain (Split block d first second) = trees.Split block d (plain first) (plain second)

-- The number of open leaves. A listed leaf is none.
abbrev pub open_leaves : ListTree → ℕ
open_leaves (Open block) = 1
open_leaves (Closed block) = 0
open_leaves (Listed block j) = 0
open_leaves (Split block d first second) = open_leaves first + open_leaves second

-- Every open leaf has a floor below the threshold. Of a listed leaf nothing is asked.
abbrev pub OpenBelow : Network → List Event → ListTree → ℕ → Type 0
OpenBelow P history (Open block) k = floor P (after block history) < k
OpenBelow P history (Closed block) k = Unit {0}
OpenBelow P history (Listed block j) k = Unit {0}
OpenBelow P history (Split block d first second) k =
    OpenBelow P (Took d ∷ after block history) first k × OpenBelow P (Refused d ∷ after block history) second k

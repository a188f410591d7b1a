-- What is kept of a search for the cheapest assignments: its tree, the floors of its open leaves, and the list.
use Rattle.std.specs.Prelude.{◌≡◌, ℕ, ◌+◌, ◌<◌, ◌≤◌, ◌⊎◌, List, [], ◌∷◌, length, slice_index, slice_index_or, Option, None, Some, IsTrue}
use Rattle.std.specs.List.{AllByRecursion}
use Rattle.cfn_model.specs.declared.step.Event.{Event}
use Rattle.cfn_model.specs.Network.{Network}
use Rattle.cfn_model.specs.Sums.{floor, is_live}
use Rattle.cfn_model.specs.Steps.{after}
use Rattle.cfn_model.specs.Paths.{TameBlock}
use Rattle.cfn_model.specs.Tree.{count, splits}
use Rattle.cfn_model.specs.Certificate.{Solution, IsSolution}
use Rattle.cfn_proof.specs.declared.tree.NodeId.{NodeId}
use Rattle.cfn_proof.specs.declared.tree.Node.{Node}
use Rattle.cfn_proof.specs.Nodes.{node_at, tree_of, IsFree, IsLinked, Before}
use Rattle.cfn_proof.specs.Local.{ValidNodes, StrictNodes}
use Rattle.cfn_best.specs.List.{IsOrdered, threshold_of}
use Rattle.cfn_ranking.specs.Trees.{number_at}

-- The nodes of the tree; by a node's number, the floor of an open leaf, and some number where the leaf is that of a listed
-- assignment; the list, and the leaf of each of its assignments; how many assignments are asked for; the threshold; and how
-- many leaves were expanded.
pub record Ranked : Type 0 where
  pub nodes : List Node
  pub floors : List ℕ
  pub numbers : List (Option ℕ)
  pub list : List Solution
  pub leaves : List NodeId
  pub count : ℕ
  pub threshold : ℕ
  pub spent : ℕ

abbrev pub floor_at : List ℕ → ℕ → ℕ
floor_at floors i = slice_index_or floors i 0

-- Behind a history one assignment is left: no other value is live, and the floor is at least its cost.
pub record IsFound (P : Network) (s : Solution) (history : List Event) : Type 0 where
  pub only : (x a : ℕ) → x < length P.sizes → a < slice_index P.sizes x → IsTrue (is_live history x a) → a ≡ slice_index s.values x
  pub dear : s.cost ≤ floor P history

-- A leaf with a number is that of an assignment, as long as it is open.
pub record IsLeafOf (P : Network) (r : Ranked) (s : Solution) (leaf : NodeId) : Type 0 where
  pub there : leaf.number < length r.nodes
  pub numbered : number_at r.numbers leaf.number ≡ None → ⊥
  pub found : (history : List Event) → IsFree r.nodes leaf.number → Before r.nodes leaf.number history → IsFound P s (after (node_at r.nodes leaf.number).block history)

abbrev pub AreLeaves : Network → Ranked → List Solution → List NodeId → Type 0
AreLeaves P r [] [] = Unit {0}
AreLeaves P r [] (leaf ∷ leaves) = ⊥
AreLeaves P r (s ∷ list) [] = ⊥
AreLeaves P r (s ∷ list) (leaf ∷ leaves) = IsLeafOf P r s leaf × AreLeaves P r list leaves

-- One of some leaves has a number.
abbrev pub HasLeaf : List NodeId → ℕ → Type 0
HasLeaf [] i = ⊥
HasLeaf (leaf ∷ leaves) i = (leaf.number ≡ i) ⊎ HasLeaf leaves i

-- An open leaf that is to be expanded has no steps, and its floor is known.
pub record IsToExpand (P : Network) (r : Ranked) (i : ℕ) : Type 0 where
  pub empty : (node_at r.nodes i).block ≡ []
  pub floor_is : (history : List Event) → Before r.nodes i history → floor_at r.floors i ≡ floor P history

-- It waits: it is there, open, and without a number.
pub record Waits (r : Ranked) (i : ℕ) : Type 0 where
  pub there : i < length r.nodes
  pub free : IsFree r.nodes i
  pub unlisted : number_at r.numbers i ≡ None

abbrev pub WaitsIn : List Node → List (Option ℕ) → ℕ → Type 0
WaitsIn nodes numbers i = (i < length nodes) × IsFree nodes i × (number_at numbers i ≡ None)

-- Costs stay small along the block of each node.
pub record TameNodes (P : Network) (nodes : List Node) : Type 0 where
  pub each : (i : ℕ) (history : List Event) → i < length nodes → Before nodes i history → TameBlock P history (node_at nodes i).block

-- No listed assignment costs more than a number.
abbrev pub AreWithin : ℕ → List Solution → Type 0
AreWithin k list = AllByRecursion (λ (s : Solution). s.cost ≤ k) list

-- What is kept at any time. An open leaf without a number is to be expanded, and one with a number is that of a listed
-- assignment.
pub record IsKept (P : Network) (r : Ranked) : Type 0 where
  pub linked : IsLinked r.nodes
  pub floors : length r.floors ≡ length r.nodes
  pub numbers : length r.numbers ≡ length r.nodes
  pub waiting : (i : ℕ) → Waits r i → IsToExpand P r i
  pub listed : (i j : ℕ) → i < length r.nodes → IsFree r.nodes i → number_at r.numbers i ≡ Some j → HasLeaf r.leaves i
  pub valid : ValidNodes P r.nodes r.threshold
  pub strict : StrictNodes P r.nodes
  pub tame : TameNodes P r.nodes
  pub leaves : AreLeaves P r r.list r.leaves
  pub solutions : AllByRecursion (IsSolution P) r.list
  pub ordered : IsOrdered r.list
  pub within : AreWithin r.threshold r.list
  pub below : r.threshold ≤ P.upper
  pub some : 1 ≤ r.count
  pub few : length r.list ≤ r.count
  pub expanded : splits (tree_of r.nodes) ≤ r.spent
  pub counted : r.spent ≤ count (tree_of r.nodes) + length r.list

-- And between two changes of the list: the threshold is that of the list.
pub record IsRanked (P : Network) (r : Ranked) : Type 0 where
  pub kept : IsKept P r
  pub threshold_is : r.threshold ≡ threshold_of P.upper r.count r.list

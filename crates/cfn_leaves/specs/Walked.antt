-- The open leaves of a tree in the order of its text, each with its node and the floor at the end of its path.
use Rattle.std.specs.Prelude.{◌≡◌, ℕ, zero, suc, ◌+◌, ◌<◌, List, [], ◌∷◌, ◌++◌, length}
use Rattle.cfn_model.specs.declared.step.Step.{Step}
use Rattle.cfn_model.specs.declared.step.Event.TheVariants.{Did}
use Rattle.cfn_model.specs.Sums.{lifted}
use Rattle.cfn_model.specs.Tree.{count}
use Rattle.cfn_proof.specs.declared.tree.End.{End}
use Rattle.cfn_proof.specs.declared.tree.End.TheVariants.{Free, Shut, Split}
use Rattle.cfn_proof.specs.declared.tree.Node.{Node}
use Rattle.cfn_proof.specs.Nodes.{node_at, tree_at}
use Rattle.cfn_leaves.specs.declared.walk.Spot.{Spot}

-- What a block adds to the floor.
abbrev pub lifts : List Step → ℕ
lifts [] = 0
lifts (step ∷ block) = lifted (Did step) + lifts block

-- A node's leaves, over those of its children.
abbrev pub spots_with : ℕ → ℕ → End → (ℕ → ℕ → List Spot) → List Spot
spots_with i low Free child = record { node = record { number = i }; floor = low } ∷ []
spots_with i low Shut child = []
spots_with i low (Split d first second) child = child first.number low ++ child second.number low

-- The leaves from a node on, so many nodes deep, behind a floor.
abbrev pub spots_at : List Node → ℕ → ℕ → ℕ → List Spot
spots_at nodes zero i low = []
spots_at nodes (suc deep) i low = spots_with i (low + lifts (node_at nodes i).block) (node_at nodes i).end (spots_at nodes deep)

-- All leaves: no tree is deeper than it has nodes.
abbrev pub spots_of : List Node → ℕ → List Spot
spots_of nodes low = spots_at nodes (length nodes) 0 low

-- The nodes ahead are nodes of the tree; the leaves that are ahead; and the splits and closed leaves ahead.
abbrev pub AreThere : List Node → List Spot → Type 0
AreThere nodes [] = Unit {0}
AreThere nodes (spot ∷ ahead) = (spot.node.number < length nodes) × AreThere nodes ahead

abbrev pub spots_left : List Node → List Spot → List Spot
spots_left nodes [] = []
spots_left nodes (spot ∷ ahead) = spots_at nodes (length nodes) spot.node.number spot.floor ++ spots_left nodes ahead

abbrev pub made_left : List Node → List Spot → ℕ
made_left nodes [] = 0
made_left nodes (spot ∷ ahead) = count (tree_at nodes spot.node.number) + made_left nodes ahead

-- A walk is on its way to all leaves, and to the number of splits and closed leaves.
pub record IsOnWay (nodes : List Node) (whole : List Spot) (last : ℕ) (spots : List Spot) (made : ℕ) (ahead : List Spot) : Type 0 where
  pub there : AreThere nodes ahead
  pub all : spots ++ spots_left nodes ahead ≡ whole
  pub count : made + made_left nodes ahead ≡ last

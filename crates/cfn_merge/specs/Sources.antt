-- What is due at the nodes of a joined tree while it is made.
use Rattle.std.specs.Prelude.{◌≡◌, ℕ, ◌<◌, ◌≤◌, List, length, Option, Some, None, slice_index_or}
use Rattle.cfn_model.specs.declared.step.Step.{Step}
use Rattle.cfn_model.specs.Tree as trees
use Rattle.cfn_proof.specs.declared.tree.Node.{Node}
use Rattle.cfn_proof.specs.Nodes.{node_at, tree_at, with_children, IsFree}
use Rattle.cfn_mending.specs.Joining.{higher, join}
use Rattle.cfn_mending.specs.Making.{Makes}
use Rattle.cfn_merge.specs.declared.pair.Source.{Source}
use Rattle.cfn_merge.specs.declared.pair.Source.TheVariants.{First, Second, Both}
use Rattle.cfn_merge.specs.declared.pair.Ending.{Ending}
use Rattle.cfn_merge.specs.declared.pair.Ending.TheVariants.{Free, Shut, Split}
use Rattle.cfn_merge.specs.Ranking.{AreBelow}
use Rattle.cfn_merge.specs.Same.{same}

-- The tree of a source, by those of the nodes of either tree: one of them, or two joined.
abbrev pub due_by : (ℕ → trees.Tree) → (ℕ → trees.Tree) → Source → trees.Tree
due_by one two (First id) = one id.number
due_by one two (Second id) = two id.number
due_by one two (Both first second) = join same (one first.number) (two second.number)

abbrev pub due : List Node → List Node → Source → trees.Tree
due first second source = due_by (tree_at first) (tree_at second) source

-- A source is of nodes with numbers below these.
abbrev pub IsThere : ℕ → ℕ → Source → Type 0
IsThere n m (First id) = id.number < n
IsThere n m (Second id) = id.number < m
IsThere n m (Both first second) = (first.number < n) × (second.number < m)

-- A node that is to be made as a tree, over the trees of the sources of its sides.
abbrev pub with_sources : List Step → Ending → (Source → trees.Tree) → trees.Tree
with_sources block Free side = trees.Open block
with_sources block Shut side = trees.Closed block
with_sources block (Split d first second) side = trees.Split block d (side first) (side second)

abbrev pub AreThere : ℕ → ℕ → Ending → Type 0
AreThere n m Free = Unit {0}
AreThere n m Shut = Unit {0}
AreThere n m (Split d first second) = IsThere n m first × IsThere n m second

-- A source's tree has this block and this ending.
pub record IsPart (first second : List Node) (source : Source) (block : List Step) (ending : Ending) : Type 0 where
  pub is : due first second source ≡ with_sources block ending (due first second)
  pub there : AreThere (length first) (length second) ending

-- Two nodes are one split, which ends so with both sides joined; or else the higher one stands, whatever their children are.
abbrev pub IsOneSplit : Node → Node → Option Ending → Type 0
IsOneSplit x y (Some ending) =
    ((one two : ℕ → trees.Tree) → join same (with_children x.block x.end one) (with_children y.block y.end two) ≡ with_sources x.block ending (due_by one two))
    × ((n m : ℕ) → AreBelow n x.end → AreBelow m y.end → AreThere n m ending)
IsOneSplit x y None =
    (one two : ℕ → trees.Tree) → join same (with_children x.block x.end one) (with_children y.block y.end two) ≡ higher (with_children x.block x.end one) (with_children y.block y.end two)

-- The source of a node, by its number.
abbrev pub source_at : List Source → ℕ → Source
source_at sources i = slice_index_or sources i (First (record { number = 0 }))

-- What is due at each node, by the sources of the nodes.
abbrev pub due_at : List Node → List Node → List Source → ℕ → trees.Tree
due_at first second sources i = due first second (source_at sources i)

-- The nodes below a number are made, and at the others, which are open leaves, their sources' trees are due: so the tree will be
-- both trees joined.
pub record IsWalking (first second : List Node) (nodes : List Node) (sources : List Source) (done : ℕ) : Type 0 where
  pub long : length sources ≡ length nodes
  pub few : length nodes ≤ 4294967296
  pub makes : Makes nodes (due_at first second sources) 0 (join same (tree_at first 0) (tree_at second 0))
  pub made : (i : ℕ) → i < done → IsFree nodes i → due_at first second sources i ≡ trees.Open (node_at nodes i).block
  pub free : (i : ℕ) → done ≤ i → i < length nodes → IsFree nodes i
  pub there : (i : ℕ) → i < length sources → IsThere (length first) (length second) (source_at sources i)

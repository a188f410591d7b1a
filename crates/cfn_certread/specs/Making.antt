-- A tree that is made in the order of its text, and which trees of the text are due.
use Rattle.std.specs.Prelude.{◌≡◌, ◌≢◌, ℕ, ◌+◌, ◌<◌, List, [], ◌∷◌, ◌++◌, length, flat_map, Option, Some, None, if◌then◌else◌, ◌==◌, true}
use Rattle.cfn_model.specs.declared.step.Step.{Step}
use Rattle.cfn_model.specs.declared.step.Decision.{Decision}
use Rattle.cfn_model.specs.Tree as trees
use Rattle.cfn_model.specs.Tree.{Tree}
use Rattle.cfn_fault.specs.Nodes.{Item}
use Rattle.cfn_fault.specs.Lines.{Line, Node, lines_of_tree}
use Rattle.cfn_proof.specs.declared.tree.Node as nodes
use Rattle.cfn_proof.specs.Nodes.{node_at, IsFree, split_behind_at, close_at, leave_at}
use Rattle.cfn_certtext.specs.Stages.{owed_after}
use Rattle.cfn_mending.specs.Making.{Makes}
use Rattle.cfn_certread.specs.declared.maker.Due.{Due}
use Rattle.cfn_certread.specs.declared.maker.Due.TheVariants.{Read, Skip}
use Rattle.cfn_certread.specs.Narrowing.{are_small, is_small_decision, narrowed}

-- The nodes that are made, the steps so far of the block of the node that is due, and the trees of the text that are due,
-- the next one first: into which open leaf each is read, or that it is skipped.
pub record Making : Type 0 where
  pub nodes : List nodes.Node
  pub block : List Step
  pub due : List Due

-- What is due here, and then the others.
abbrev pub all_due : Option Due → List Due → List Due
all_due None waiting = []
all_due (Some here) waiting = here ∷ waiting

-- No tree is read into a node.
abbrev pub IsNoneOf : ℕ → List Due → Type 0
IsNoneOf i [] = Unit {0}
IsNoneOf i (Read leaf ∷ due) = (leaf.number ≢ i) × IsNoneOf i due
IsNoneOf i (Skip ∷ due) = IsNoneOf i due

-- Each tree is read into an open leaf, and no two into one.
abbrev pub AreDue : List nodes.Node → List Due → Type 0
AreDue nodes [] = Unit {0}
AreDue nodes (Read leaf ∷ due) = (leaf.number < length nodes) × IsFree nodes leaf.number × IsNoneOf leaf.number due × AreDue nodes due
AreDue nodes (Skip ∷ due) = AreDue nodes due

-- The nodes and the block of a tree in the making.
pub record IsMaking (m : Making) : Type 0 where
  pub due : AreDue m.nodes m.due
  pub small : are_small m.block ≡ true

-- A tree whose block goes on behind these steps.
abbrev pub behind : List Step → Tree → Tree
behind block (trees.Open steps) = trees.Open (block ++ steps)
behind block (trees.Closed steps) = trees.Closed (block ++ steps)
behind block (trees.Split steps d first second) = trees.Split (block ++ steps) d first second

-- What a node will be where these trees of the text are due: an open leaf that none is read into stays as it is.
abbrev pub due_at : List nodes.Node → List Step → List Due → List Tree → ℕ → Tree
due_at nodes block [] left i = trees.Open (node_at nodes i).block
due_at nodes block (here ∷ due) [] i = trees.Open (node_at nodes i).block
due_at nodes block (Read leaf ∷ due) (tree ∷ left) i = if leaf.number == i then narrowed (behind block tree) else due_at nodes [] due left i
due_at nodes block (Skip ∷ due) (tree ∷ left) i = due_at nodes [] due left i

-- What an open leaf becomes that a tree is read into, where it is left open or closed behind a block, and where it is
-- split: both sides are read into its children, or skipped where the decision is not small.
abbrev pub left_at : List nodes.Node → Due → List Step → List nodes.Node
left_at nodes (Read leaf) block = leave_at nodes leaf.number block
left_at nodes Skip block = nodes

abbrev pub closed_at : List nodes.Node → Due → List Step → List nodes.Node
closed_at nodes (Read leaf) block = close_at nodes leaf.number block
closed_at nodes Skip block = nodes

abbrev pub sides_at : List nodes.Node → Due → List Step → Decision → Making
sides_at nodes (Read leaf) block d =
    if is_small_decision d then record {
      nodes = split_behind_at nodes leaf.number block d;
      block = [];
      due = Read (record { number = length nodes }) ∷ Read (record { number = length nodes + 1 }) ∷ [];
    } else record { nodes = leave_at nodes leaf.number block; block = []; due = Skip ∷ Skip ∷ [] }
sides_at nodes Skip block d = record { nodes = nodes; block = []; due = Skip ∷ Skip ∷ [] }

-- What is due is read into an open leaf, if it is not skipped.
abbrev pub IsDue : List nodes.Node → Due → Type 0
IsDue nodes (Read leaf) = (leaf.number < length nodes) × IsFree nodes leaf.number
IsDue nodes Skip = Unit {0}

-- The lines of trees, one behind the other.
abbrev pub lines_of_trees : List Tree → List Line
lines_of_trees left = flat_map lines_of_tree left

-- The lines that were read and those of the trees that are left are a tree's, and that tree, narrowed, is made.
pub record IsMade (m : Making) (read : List Line) (left : List Tree) : Type 0 where
  pub tree : Tree
  pub lines : lines_of_tree tree ≡ read ++ lines_of_trees left
  pub makes : Makes m.nodes (due_at m.nodes m.block m.due left) 0 (narrowed tree)

-- So it is, whatever trees are left to come.
abbrev pub Reads : Making → List Line → Type 0
Reads m read = (left : List Tree) → length left ≡ length m.due → IsMade m read left

-- One more line of a node was read.
pub record Goes (old new : Making) (item : Item) : Type 0 where
  pub owed : length new.due ≡ owed_after (length old.due) item
  pub reads : (read : List Line) → Reads old read → Reads new (read ++ Node item ∷ [])

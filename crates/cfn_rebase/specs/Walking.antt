-- A walk over an old tree, and the tree that it makes.
use Rattle.std.specs.Prelude.{◌≡◌, ℕ, ◌+◌, ◌<◌, ◌⊎◌, List, [], ◌∷◌, length, reverse}
use Rattle.cfn_model.specs.declared.step.Step.{Step}
use Rattle.cfn_model.specs.declared.step.Decision.{Decision}
use Rattle.cfn_model.specs.declared.step.Event.{Event}
use Rattle.cfn_model.specs.declared.step.Event.TheVariants.{Took, Refused}
use Rattle.cfn_model.specs.Network.{Network}
use Rattle.cfn_model.specs.Steps.{IsDecision, after}
use Rattle.cfn_model.specs.Tree as trees
use Rattle.cfn_model.specs.Tree.{IsStrictSplit}
use Rattle.cfn_proof.specs.declared.tree.NodeId.{NodeId}
use Rattle.cfn_proof.specs.declared.tree.End.{End}
use Rattle.cfn_proof.specs.declared.tree.End.TheVariants.{Shut, Split}
use Rattle.cfn_proof.specs.declared.tree.Node.{Node}
use Rattle.cfn_proof.specs.Legs.{event_of}
use Rattle.cfn_proof.specs.Nodes.{node_at, tree_at, tree_of, IsFree}
use Rattle.cfn_store.specs.Marking.{IsBehind}
use Rattle.cfn_store.specs.Standing.{Standing, history}
use Rattle.cfn_mending.specs.Keeping.{IsFront, Kept}
use Rattle.cfn_rebase.specs.declared.walk.Waiting.{Waiting}
use Rattle.cfn_rebase.specs.declared.walk.Walk.{Walk}
use Rattle.cfn_rebase.specs.Fronts.{IsEnding}
use Rattle.cfn_rebase.specs.Making.{decision_of}

-- What is due at a leaf of the tree that is made: what stands before the leaf, and the old tree of which it is kept.
pub record Due : Type 0 where
  pub path : List Event
  pub old : trees.Tree

-- From a node on the nodes are what is kept of an old tree, but for what is due at open leaves.
pub data Keeps (P : Network) (k : ℕ) (nodes : List Node) (due : ℕ → Due) : ℕ → List Event → trees.Tree → Type 0 where
  at_free : {i : ℕ} {path : List Event} {old : trees.Tree} → i < length nodes → IsFree nodes i → due i ≡ record { path = path; old = old } → Keeps P k nodes due i path old
  at_shut : {i : ℕ} {path : List Event} {old : trees.Tree} → i < length nodes → (node_at nodes i).end ≡ Shut → Kept P path k old (trees.Closed (node_at nodes i).block) → Keeps P k nodes due i path old
  at_split : {i : ℕ} {path : List Event} {old : trees.Tree} (d : Decision) (first second : NodeId) (block : List Step) (one two : trees.Tree) → i < length nodes → (node_at nodes i).end ≡ Split d first second →
      old ≡ trees.Split block d one two → IsFront P path k block (node_at nodes i).block [] → IsDecision P d → IsStrictSplit P (after (node_at nodes i).block path) d →
      Keeps P k nodes due first.number (Took d ∷ after (node_at nodes i).block path) one → Keeps P k nodes due second.number (Refused d ∷ after (node_at nodes i).block path) two → Keeps P k nodes due i path old

-- A number is one of these.
abbrev pub IsIn : ℕ → List ℕ → Type 0
IsIn n [] = ⊥
IsIn n (m ∷ numbers) = (n ≡ m) ⊎ IsIn n numbers

-- These are numbers of open leaves, each once.
abbrev pub AreLeaves : List Node → List ℕ → Type 0
AreLeaves nodes [] = Unit {0}
AreLeaves nodes (n ∷ numbers) = (n < length nodes) × IsFree nodes n × (IsIn n numbers → ⊥) × AreLeaves nodes numbers

-- The leaves of the sides that wait.
abbrev pub leaves_of : List Waiting → List ℕ
leaves_of [] = []
leaves_of (w ∷ waiting) = w.leaf.number ∷ leaves_of waiting

-- A side that waits is a side of an old split, and due at its leaf.
pub record IsOwed (P : Network) (old : List Node) (due : ℕ → Due) (w : Waiting) : Type 0 where
  pub there : w.old.number < length old
  pub is : due w.leaf.number ≡ record { path = event_of w.side ∷ history w.spot; old = tree_at old w.old.number }
  pub decision : IsDecision P (decision_of w.side)

abbrev pub AreOwed : Network → List Node → (ℕ → Due) → List Waiting → Type 0
AreOwed P old due [] = Unit {0}
AreOwed P old due (w ∷ waiting) = IsOwed P old due w × AreOwed P old due waiting

-- The split of each side that waits stands on the way, before those of the newer ones.
abbrev pub AreBehind : Standing → List Waiting → Type 0
AreBehind s [] = Unit {0}
AreBehind s (w ∷ waiting) = IsBehind w.spot s × AreBehind w.spot waiting

-- The nodes are what is kept of the old tree, but for the leaves with these numbers, of which the sides that wait have theirs.
pub record IsWalking (P : Network) (k : ℕ) (old nodes : List Node) (due : ℕ → Due) (s : Standing) (numbers : List ℕ) (waiting : List Waiting) : Type 0 where
  pub network : s.network ≡ P
  pub keeps : Keeps P k nodes due 0 [] (tree_of old)
  pub rest : (i : ℕ) → i < length nodes → IsFree nodes i → IsIn i numbers ⊎ Kept P (due i).path k (due i).old (trees.Open (node_at nodes i).block)
  pub leaves : AreLeaves nodes numbers
  pub owed : AreOwed P old due waiting
  pub behind : AreBehind s waiting

-- A walk between two nodes: only the sides that wait are still to be kept.
pub record Walks (P : Network) (k : ℕ) (old : List Node) (w : Walk) : Type 0 where
  pub due : ℕ → Due
  pub walking : IsWalking P k old w.tree due w.ground (leaves_of (reverse w.waiting.items)) (reverse w.waiting.items)
  pub threshold : w.threshold ≡ k

-- A walk with one leaf more to be kept, which an old node is due at, where the events up to the store's block lead.
pub record IsAt (P : Network) (k : ℕ) (old : List Node) (w : Walk) (id leaf : ℕ) : Type 0 where
  pub due : ℕ → Due
  pub walking : IsWalking P k old w.tree due w.ground (leaf ∷ leaves_of (reverse w.waiting.items)) (reverse w.waiting.items)
  pub threshold : w.threshold ≡ k
  pub here : due leaf ≡ record { path = w.ground.base; old = tree_at old id }
  pub there : id < length old

-- No step of the node is made yet.
pub record IsAtNode (P : Network) (k : ℕ) (old : List Node) (w : Walk) (id leaf : ℕ) : Type 0 where
  pub at : IsAt P k old w id leaf
  pub none : w.ground.block ≡ []

-- The steps of the node that are kept are made, and how it ends is known.
pub record IsEndingAt (P : Network) (k : ℕ) (old : List Node) (w : Walk) (id leaf : ℕ) (block : List Step) (end : End) : Type 0 where
  pub at : IsAt P k old w id leaf
  pub block_is : block ≡ w.ground.block
  pub ending : IsEnding P w.ground.base k (node_at old id) w.ground.block end

-- A side that waited is taken from those that wait.
pub record IsNext (P : Network) (k : ℕ) (old : List Node) (w : Walk) (next : Waiting) : Type 0 where
  pub due : ℕ → Due
  pub walking : IsWalking P k old w.tree due w.ground (leaves_of (next ∷ reverse w.waiting.items)) (next ∷ reverse w.waiting.items)
  pub threshold : w.threshold ≡ k

-- How many nodes a tree has, and those of all sides that wait.
abbrev pub weight : trees.Tree → ℕ
weight (trees.Open block) = 1
weight (trees.Closed block) = 1
weight (trees.Split block d first second) = 1 + (weight first + weight second)

abbrev pub weights : List Node → List Waiting → ℕ
weights old [] = 0
weights old (w ∷ waiting) = weight (tree_at old w.old.number) + weights old waiting

-- What a whole tree has where each of its nodes has it. What a node must have depends on what stands before it.
use Rattle.std.specs.Prelude.{◌≡◌, ℕ, ◌+◌, ◌<◌, ◌≤◌, ◌^◌, ◌⊎◌, List, [], ◌∷◌, ◌++◌, length}
use Rattle.cfn_model.specs.declared.step.Step.{Step}
use Rattle.cfn_model.specs.declared.step.Decision.{Decision}
use Rattle.cfn_model.specs.declared.step.Event.{Event}
use Rattle.cfn_model.specs.declared.step.Event.TheVariants.{Took, Refused}
use Rattle.cfn_model.specs.declared.version.Version.TheVariants.{Second}
use Rattle.cfn_model.specs.Network.{Network}
use Rattle.cfn_model.specs.Sums.{floor}
use Rattle.cfn_model.specs.Steps.{IsDecision, Run, after}
use Rattle.cfn_model.specs.Text.{IsSpelledTree, HasTree}
use Rattle.cfn_model.specs.Tree as trees
use Rattle.cfn_model.specs.Tree.{CanClose, IsStrictSplit, Valid, Strict, OpenBelow, bound, count, splits, open_leaves}
use Rattle.cfn_proof.specs.declared.tree.End.{End}
use Rattle.cfn_proof.specs.declared.tree.End.TheVariants.{Free, Shut, Split}
use Rattle.cfn_proof.specs.declared.tree.Node.{Node}
use Rattle.cfn_proof.specs.Nodes.{node_at, tree_of, IsLinked, IsTree, IsFree, Before, split_at, split_behind_at, close_at, moved, graft_at}

-- A node's block runs after the history before it; a closed leaf may be closed there, and a split is in range.
abbrev pub ValidNode : Network → List Event → List Step → End → ℕ → Type 0
ValidNode P history block Free k = Run P history block k
ValidNode P history block Shut k = Run P history block k × CanClose P (after block history) k
ValidNode P history block (Split d first second) k = Run P history block k × IsDecision P d

pub record ValidNodes (P : Network) (nodes : List Node) (k : ℕ) : Type 0 where
  pub each : (i : ℕ) (history : List Event) → i < length nodes → Before nodes i history → ValidNode P history (node_at nodes i).block (node_at nodes i).end k

-- A split is strict after what stands before it.
abbrev pub StrictNode : Network → List Event → List Step → End → Type 0
StrictNode P history block Free = Unit {0}
StrictNode P history block Shut = Unit {0}
StrictNode P history block (Split d first second) = IsStrictSplit P (after block history) d

pub record StrictNodes (P : Network) (nodes : List Node) : Type 0 where
  pub each : (i : ℕ) (history : List Event) → i < length nodes → Before nodes i history → StrictNode P history (node_at nodes i).block (node_at nodes i).end

-- Each open leaf has a floor of at least a number, or below it.
pub record FloorsFrom (P : Network) (nodes : List Node) (low : ℕ) : Type 0 where
  pub each : (i : ℕ) (history : List Event) → i < length nodes → IsFree nodes i → Before nodes i history → low ≤ floor P (after (node_at nodes i).block history)

pub record FloorsBelow (P : Network) (nodes : List Node) (k : ℕ) : Type 0 where
  pub each : (i : ℕ) (history : List Event) → i < length nodes → IsFree nodes i → Before nodes i history → floor P (after (node_at nodes i).block history) < k

-- The tree is valid, or strict, where each node is.
abbrev pub ValidLaw : Type 0
ValidLaw = (P : Network) (nodes : List Node) (k : ℕ) → IsLinked nodes → ValidNodes P nodes k → Valid P [] (tree_of nodes) k

abbrev pub StrictLaw : Type 0
StrictLaw = (P : Network) (nodes : List Node) → IsLinked nodes → StrictNodes P nodes → Strict P [] (tree_of nodes)

-- The tree's open leaves are below k, or its bound is at least a number, where each open leaf is.
abbrev pub OpenBelowLaw : Type 0
OpenBelowLaw = (P : Network) (nodes : List Node) (k : ℕ) → IsLinked nodes → FloorsBelow P nodes k → OpenBelow P [] (tree_of nodes) k

abbrev pub BoundFromLaw : Type 0
BoundFromLaw = (P : Network) (nodes : List Node) (low k : ℕ) → IsLinked nodes → low ≤ k → FloorsFrom P nodes low → low ≤ bound P [] (tree_of nodes) k

-- The bound is at most the floor of each open leaf.
abbrev pub BoundAtLaw : Type 0
BoundAtLaw = (P : Network) (nodes : List Node) (k i : ℕ) (history : List Event) → IsLinked nodes → i < length nodes → IsFree nodes i → Before nodes i history → bound P [] (tree_of nodes) k ≤ floor P (after (node_at nodes i).block history)

-- The same of nodes that stand behind a base: a history that stands before all that stands before a node.
pub record ValidNodesBehind (P : Network) (base : List Event) (nodes : List Node) (k : ℕ) : Type 0 where
  pub each : (i : ℕ) (history : List Event) → i < length nodes → Before nodes i history → ValidNode P (history ++ base) (node_at nodes i).block (node_at nodes i).end k

pub record StrictNodesBehind (P : Network) (base : List Event) (nodes : List Node) : Type 0 where
  pub each : (i : ℕ) (history : List Event) → i < length nodes → Before nodes i history → StrictNode P (history ++ base) (node_at nodes i).block (node_at nodes i).end

pub record FloorsFromBehind (P : Network) (base : List Event) (nodes : List Node) (low : ℕ) : Type 0 where
  pub each : (i : ℕ) (history : List Event) → i < length nodes → IsFree nodes i → Before nodes i history → low ≤ floor P (after (node_at nodes i).block (history ++ base))

pub record FloorsBelowBehind (P : Network) (base : List Event) (nodes : List Node) (k : ℕ) : Type 0 where
  pub each : (i : ℕ) (history : List Event) → i < length nodes → IsFree nodes i → Before nodes i history → floor P (after (node_at nodes i).block (history ++ base)) < k

-- Behind a base, the tree is valid, or strict, where each node is.
abbrev pub ValidBehindLaw : Type 0
ValidBehindLaw = (P : Network) (base : List Event) (nodes : List Node) (k : ℕ) → IsLinked nodes → ValidNodesBehind P base nodes k → Valid P base (tree_of nodes) k

abbrev pub StrictBehindLaw : Type 0
StrictBehindLaw = (P : Network) (base : List Event) (nodes : List Node) → IsLinked nodes → StrictNodesBehind P base nodes → Strict P base (tree_of nodes)

-- Behind a base, the tree's open leaves are below k, or its bound is at least a number, where each open leaf is.
abbrev pub OpenBelowBehindLaw : Type 0
OpenBelowBehindLaw = (P : Network) (base : List Event) (nodes : List Node) (k : ℕ) → IsLinked nodes → FloorsBelowBehind P base nodes k → OpenBelow P base (tree_of nodes) k

abbrev pub BoundFromBehindLaw : Type 0
BoundFromBehindLaw = (P : Network) (base : List Event) (nodes : List Node) (low k : ℕ) → IsLinked nodes → low ≤ k → FloorsFromBehind P base nodes low → low ≤ bound P base (tree_of nodes) k

-- Behind a base, the bound is at most the floor of each open leaf.
abbrev pub BoundAtBehindLaw : Type 0
BoundAtBehindLaw = (P : Network) (base : List Event) (nodes : List Node) (k i : ℕ) (history : List Event) → IsLinked nodes → i < length nodes → IsFree nodes i → Before nodes i history → bound P base (tree_of nodes) k ≤ floor P (after (node_at nodes i).block (history ++ base))

-- A split of an open leaf, and its closing, are one node more.
abbrev pub CountSplitLaw : Type 0
CountSplitLaw = (nodes : List Node) (i : ℕ) (d : Decision) → IsLinked nodes → i < length nodes → IsFree nodes i → length nodes + 2 ≤ 2 ^ 32 → ((history : List Event) × Before nodes i history) → count (tree_of (split_at nodes i d)) ≡ count (tree_of nodes) + 1

abbrev pub CountCloseLaw : Type 0
CountCloseLaw = (nodes : List Node) (i : ℕ) (block : List Step) → IsLinked nodes → i < length nodes → IsFree nodes i → ((history : List Event) × Before nodes i history) → count (tree_of (close_at nodes i block)) ≡ count (tree_of nodes) + 1

-- A split of an open leaf is one split more, and a closing is none.
abbrev pub SplitsSplitLaw : Type 0
SplitsSplitLaw = (nodes : List Node) (i : ℕ) (d : Decision) → IsLinked nodes → i < length nodes → IsFree nodes i → length nodes + 2 ≤ 2 ^ 32 → ((history : List Event) × Before nodes i history) → splits (tree_of (split_at nodes i d)) ≡ splits (tree_of nodes) + 1

abbrev pub SplitsCloseLaw : Type 0
SplitsCloseLaw = (nodes : List Node) (i : ℕ) (block : List Step) → IsLinked nodes → i < length nodes → IsFree nodes i → ((history : List Event) × Before nodes i history) → splits (tree_of (close_at nodes i block)) ≡ splits (tree_of nodes)

-- The same of a split behind a block.
abbrev pub CountSplitBehindLaw : Type 0
CountSplitBehindLaw = (nodes : List Node) (i : ℕ) (block : List Step) (d : Decision) → IsLinked nodes → i < length nodes → IsFree nodes i → length nodes + 2 ≤ 2 ^ 32 → ((history : List Event) × Before nodes i history) → count (tree_of (split_behind_at nodes i block d)) ≡ count (tree_of nodes) + 1

abbrev pub SplitsSplitBehindLaw : Type 0
SplitsSplitBehindLaw = (nodes : List Node) (i : ℕ) (block : List Step) (d : Decision) → IsLinked nodes → i < length nodes → IsFree nodes i → length nodes + 2 ≤ 2 ^ 32 → ((history : List Event) × Before nodes i history) → splits (tree_of (split_behind_at nodes i block d)) ≡ splits (tree_of nodes) + 1

-- After a split, what stands before a node is what stood before it, or a new child's: the block and then the decision.
pub record IsNewChild (nodes : List Node) (i : ℕ) (block : List Step) (side : Event) (history : List Event) : Type 0 where
  pub above : List Event
  pub before : Before nodes i above
  pub is : history ≡ side ∷ after block above

abbrev pub BeforeSplitLaw : Type 0
BeforeSplitLaw = (nodes : List Node) (i : ℕ) (d : Decision) (j : ℕ) (history : List Event) → IsLinked nodes → i < length nodes → IsFree nodes i → Before (split_at nodes i d) j history →
    (j < length nodes → Before nodes j history)
    × (j ≡ length nodes → IsNewChild nodes i (node_at nodes i).block (Took d) history)
    × (j ≡ length nodes + 1 → IsNewChild nodes i (node_at nodes i).block (Refused d) history)

abbrev pub BeforeSplitBehindLaw : Type 0
BeforeSplitBehindLaw = (nodes : List Node) (i : ℕ) (block : List Step) (d : Decision) (j : ℕ) (history : List Event) → IsLinked nodes → i < length nodes → IsFree nodes i → Before (split_behind_at nodes i block d) j history →
    (j < length nodes → Before nodes j history)
    × (j ≡ length nodes → IsNewChild nodes i block (Took d) history)
    × (j ≡ length nodes + 1 → IsNewChild nodes i block (Refused d) history)

-- After a closing, what stands before a node is what stood before it.
abbrev pub BeforeCloseLaw : Type 0
BeforeCloseLaw = (nodes : List Node) (i : ℕ) (block : List Step) (j : ℕ) (history : List Event) → IsLinked nodes → i < length nodes → IsFree nodes i → Before (close_at nodes i block) j history → Before nodes j history

-- Nodes stay valid where a leaf is split, in range, behind a block that runs after what stands before it.
abbrev pub ValidSplitBehindLaw : Type 0
ValidSplitBehindLaw = (P : Network) (nodes : List Node) (k i : ℕ) (block : List Step) (d : Decision) → IsLinked nodes → i < length nodes → IsFree nodes i → ValidNodes P nodes k → ((history : List Event) → Before nodes i history → Run P history block k) → IsDecision P d → ValidNodes P (split_behind_at nodes i block d) k

-- Nodes stay strict where the split is strict after what stands before the leaf and then the block.
abbrev pub StrictSplitBehindLaw : Type 0
StrictSplitBehindLaw = (P : Network) (nodes : List Node) (i : ℕ) (block : List Step) (d : Decision) → IsLinked nodes → i < length nodes → IsFree nodes i → StrictNodes P nodes → ((history : List Event) → Before nodes i history → IsStrictSplit P (after block history) d) → StrictNodes P (split_behind_at nodes i block d)

-- The same of nodes that stand behind a base.
abbrev pub ValidBehindSplitLaw : Type 0
ValidBehindSplitLaw = (P : Network) (base : List Event) (nodes : List Node) (k i : ℕ) (block : List Step) (d : Decision) → IsLinked nodes → i < length nodes → IsFree nodes i → ValidNodesBehind P base nodes k → ((history : List Event) → Before nodes i history → Run P (history ++ base) block k) → IsDecision P d → ValidNodesBehind P base (split_behind_at nodes i block d) k

abbrev pub StrictBehindSplitLaw : Type 0
StrictBehindSplitLaw = (P : Network) (base : List Event) (nodes : List Node) (i : ℕ) (block : List Step) (d : Decision) → IsLinked nodes → i < length nodes → IsFree nodes i → StrictNodesBehind P base nodes → ((history : List Event) → Before nodes i history → IsStrictSplit P (after block (history ++ base)) d) → StrictNodesBehind P base (split_behind_at nodes i block d)

-- After a graft, what stands before a node of the piece, but its root, is what stood before it there, behind the leaf's
-- path: what stands before the leaf, and then the leaf's block.
pub record IsOfPiece (nodes : List Node) (i : ℕ) (piece : List Node) (m : ℕ) (history : List Event) : Type 0 where
  pub above : List Event
  pub before : Before nodes i above
  pub inner : List Event
  pub inside : Before piece m inner
  pub is : history ≡ inner ++ after (node_at nodes i).block above

-- What stands before a node that was there stays.
abbrev pub BeforeGraftLaw : Type 0
BeforeGraftLaw = (nodes : List Node) (i : ℕ) (piece : List Node) (j : ℕ) (history : List Event) → IsLinked nodes → IsLinked piece → i < length nodes → IsFree nodes i → Before (graft_at nodes i piece) j history →
    (j < length nodes → Before nodes j history)
    × ((m : ℕ) → 0 < m → j ≡ moved i (length nodes) m → IsOfPiece nodes i piece m history)

-- The nodes of two trees are the nodes of one, after a graft.
abbrev pub CountGraftLaw : Type 0
CountGraftLaw = (nodes : List Node) (i : ℕ) (piece : List Node) → IsLinked nodes → IsLinked piece → i < length nodes → IsFree nodes i → length nodes + length piece ≤ 2 ^ 32 + 1 → ((history : List Event) × Before nodes i history) → count (tree_of (graft_at nodes i piece)) ≡ count (tree_of nodes) + count (tree_of piece)

abbrev pub SplitsGraftLaw : Type 0
SplitsGraftLaw = (nodes : List Node) (i : ℕ) (piece : List Node) → IsLinked nodes → IsLinked piece → i < length nodes → IsFree nodes i → length nodes + length piece ≤ 2 ^ 32 + 1 → ((history : List Event) × Before nodes i history) → splits (tree_of (graft_at nodes i piece)) ≡ splits (tree_of nodes) + splits (tree_of piece)

-- A tree whose first block is put behind a block.
abbrev pub behind : List Step → trees.Tree → trees.Tree
behind block (trees.Open more) = trees.Open (block ++ more)
behind block (trees.Closed more) = trees.Closed (block ++ more)
behind block (trees.Split more d first second) = trees.Split (block ++ more) d first second

-- What a tree, behind a history, becomes where another takes the place of one of its open leaves, behind the leaf's own
-- block: the leaf with this path.
abbrev pub Replaced : trees.Tree → List Event → List Event → trees.Tree → trees.Tree → Type 0
Replaced (trees.Open block) history path place new = (path ≡ after block history) × (new ≡ behind block place)
Replaced (trees.Closed block) history path place new = ⊥
Replaced (trees.Split block d first second) history path place new =
    ((below : trees.Tree) × Replaced first (Took d ∷ after block history) path place below × (new ≡ trees.Split block d below second))
    ⊎ ((below : trees.Tree) × Replaced second (Refused d ∷ after block history) path place below × (new ≡ trees.Split block d first below))

-- A graft puts the piece's tree in the place of the leaf.
abbrev pub GraftLaw : Type 0
GraftLaw = (nodes : List Node) (i : ℕ) (piece : List Node) (history : List Event) → IsLinked nodes → IsLinked piece → i < length nodes → IsFree nodes i → length nodes + length piece ≤ 2 ^ 32 + 1 → Before nodes i history → Replaced (tree_of nodes) [] (after (node_at nodes i).block history) (tree_of piece) (tree_of (graft_at nodes i piece))

-- Nodes stay valid, or strict, where those of the piece are, behind the leaf's path.
abbrev pub ValidGraftLaw : Type 0
ValidGraftLaw = (P : Network) (nodes : List Node) (k i : ℕ) (piece : List Node) → IsLinked nodes → IsLinked piece → i < length nodes → IsFree nodes i → ValidNodes P nodes k → ((history : List Event) → Before nodes i history → ValidNodesBehind P (after (node_at nodes i).block history) piece k) → ValidNodes P (graft_at nodes i piece) k

abbrev pub StrictGraftLaw : Type 0
StrictGraftLaw = (P : Network) (nodes : List Node) (i : ℕ) (piece : List Node) → IsLinked nodes → IsLinked piece → i < length nodes → IsFree nodes i → StrictNodes P nodes → ((history : List Event) → Before nodes i history → StrictNodesBehind P (after (node_at nodes i).block history) piece) → StrictNodes P (graft_at nodes i piece)

-- One history stands before a node, and some history does.
abbrev pub BeforeOnceLaw : Type 0
BeforeOnceLaw = (nodes : List Node) (i : ℕ) (history other : List Event) → IsLinked nodes → Before nodes i history → Before nodes i other → history ≡ other

abbrev pub BeforeSomeLaw : Type 0
BeforeSomeLaw = (nodes : List Node) (i : ℕ) → IsLinked nodes → i < length nodes → (history : List Event) × Before nodes i history

-- The whole tree has a spelling where its nodes have.
abbrev pub SpelledLaw : Type 0
SpelledLaw = (nodes : List Node) → IsTree nodes → IsSpelledTree (tree_of nodes)

-- The second version has lines for all of a tree's decisions.
abbrev pub LinesLaw : Type 0
LinesLaw = (nodes : List Node) → HasTree Second (tree_of nodes)

-- The tree has no open leaf where no node is one, and some where a node is.
abbrev pub NoneOpenLaw : Type 0
NoneOpenLaw = (nodes : List Node) → IsLinked nodes → ((i : ℕ) → i < length nodes → IsFree nodes i → ⊥) → open_leaves (tree_of nodes) ≡ 0

abbrev pub SomeOpenLaw : Type 0
SomeOpenLaw = (nodes : List Node) (i : ℕ) → IsLinked nodes → i < length nodes → IsFree nodes i → 0 < open_leaves (tree_of nodes)

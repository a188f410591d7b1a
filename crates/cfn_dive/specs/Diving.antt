-- What holds of a worker's parts and of a tree in the making, between two expansions and in one.
use Rattle.std.specs.Prelude.{◌≡◌, true, false, ℕ, ◌+◌, ◌<◌, ◌≤◌, ◌^◌, ◌⊎◌, Bool, List, [], ◌∷◌, length, map, Option, Some, None, IfSome, MatchOption}
use Rattle.std.specs.List.{AllByRecursion}
use Rattle.cfn_model.specs.declared.step.Step.{Step}
use Rattle.cfn_model.specs.declared.step.Event.TheVariants.{Refused}
use Rattle.cfn_model.specs.Network.{Network}
use Rattle.cfn_model.specs.Paths.{TameBlock}
use Rattle.cfn_model.specs.Sums.{floor}
use Rattle.cfn_model.specs.Steps.{IsDecision, Run, after}
use Rattle.cfn_model.specs.Tree.{CanClose, open_leaves}
use Rattle.cfn_consistency.specs.Consistency.{AreFullyConsistent}
use Rattle.cfn_proof.specs.declared.tree.NodeId.{NodeId}
use Rattle.cfn_proof.specs.Nodes.{tree_of}
use Rattle.cfn_store.specs.Standing.{Standing, history}
use Rattle.cfn_edac.specs.Settling.{IsBehindSettled}
use Rattle.cfn_dive.specs.Enforcing.{IsSettledAt}
use Rattle.cfn_dive.specs.Limit.{step_limit}
use Rattle.cfn_dive.specs.declared.parts.Parts.{Parts}
use Rattle.cfn_dive.specs.declared.parts.Waiting.{Waiting}
use Rattle.cfn_dive.specs.declared.growth.Growth.{Growth}
use Rattle.cfn_dive.specs.declared.growth.Leaf.{Leaf}
use Rattle.cfn_dive.specs.Stack.{Place, Stack}
use Rattle.cfn_dive.specs.Growing.{IsGrown}

-- All parts are of a network.
pub record IsOf (P : Network) (p : Parts) : Type 0 where
  pub network : p.store.network ≡ P
  pub enforcer : p.enforcer ≡ P
  pub weights : length p.weights ≡ length P.functions
  pub incidence : p.incidence ≡ P
  pub trimmer : p.trimmer ≡ P
  pub steps : p.steps ≡ step_limit P
  pub values : length p.values.items ≡ length P.sizes
  pub offer : p.offer.network ≡ P

-- A leaf that waits stands behind its mark, where its decision is refused.
abbrev pub place_of : Waiting → Place
place_of w = record { leaf = w.leaf.number; path = Refused w.decision ∷ history w.mark }

abbrev pub places : List Waiting → List Place
places waiting = map place_of waiting

-- Its decision is in range, its floor is that at the mark, and where it says so the network was fully consistent there.
pub record IsWaiting (P : Network) (w : Waiting) : Type 0 where
  pub network : w.mark.network ≡ P
  pub decision : IsDecision P w.decision
  pub floor : w.floor ≡ floor P (history w.mark)
  pub settled : w.settled ≡ true → IsSettledAt P (history w.mark)

abbrev pub AreWaiting : Network → List Waiting → Type 0
AreWaiting P waiting = AllByRecursion (IsWaiting P) waiting

-- The parts and the tree of a dive.
pub record IsKept (P : Network) (p : Parts) (g : Growth) : Type 0 where
  pub of : IsOf P p
  pub grown : IsGrown P g.base.value g.threshold g.granted g.tree g.nodes g.left
  pub waiting : AreWaiting P p.waiting.items

-- The store's path began at a leaf, to which the way goes by the leaves that wait.
abbrev pub HasStack : Parts → Growth → NodeId → Type 0
HasStack p g leaf = Stack g.tree 0 g.base.value (record { leaf = leaf.number; path = p.store.base }) (places p.waiting.items)

-- The store stands at a leaf, with an empty block. The leaf's floor is known, and so is the side that leads there from a
-- place where the network was fully consistent, if it was. Only where no event stands before it is it the whole tree's root.
pub record IsAt (P : Network) (p : Parts) (g : Growth) (leaf : Leaf) : Type 0 where
  pub stack : HasStack p g leaf.id
  pub block : p.store.block ≡ []
  pub floor : leaf.floor ≡ floor P p.store.base
  pub since : IfSome leaf.since (IsBehindSettled p.store)
  pub root : leaf.is_root ≡ true → p.store.base ≡ []

-- Between two expansions: the store stands at the current leaf, or no leaf is open.
pub record IsDiving (P : Network) (p : Parts) (g : Growth) : Type 0 where
  pub kept : IsKept P p g
  pub at : MatchOption g.current (open_leaves (tree_of g.tree) ≡ 0) (IsAt P p g)

-- In an expansion: the store's block runs behind the leaf that is expanded.
pub record IsExpanding (P : Network) (p : Parts) (g : Growth) (leaf : NodeId) : Type 0 where
  pub kept : IsKept P p g
  pub stack : HasStack p g leaf
  pub runs : Run P p.store.base p.store.block g.threshold
  pub left : 1 ≤ g.left
  pub few : g.nodes + 1 < 2 ^ 64

-- A leaf may be closed behind a block: the store's path began there, and the block runs and closes at the threshold, with
-- small costs all along.
pub record IsClosing (P : Network) (p : Parts) (g : Growth) (leaf : NodeId) (block : List Step) : Type 0 where
  pub kept : IsKept P p g
  pub stack : HasStack p g leaf
  pub runs : Run P p.store.base block g.threshold
  pub closes : CanClose P (after block p.store.base) g.threshold
  pub tame : TameBlock P p.store.base block
  pub left : 1 ≤ g.left
  pub few : g.nodes + 1 < 2 ^ 64

-- Where a store stands, the network is fully consistent at a threshold, or the block has all steps that it may have.
abbrev pub IsSettledOrSpent : Bool → Standing → ℕ → Type 0
IsSettledOrSpent true s k = AreFullyConsistent s.network (history s) k
IsSettledOrSpent false s k = step_limit s.network ≤ length s.block

-- After an expansion that was made, one node more is counted.
pub record IsExpanded (P : Network) (old new : Growth) (p : Parts) : Type 0 where
  pub diving : IsDiving P p new
  pub nodes : new.nodes ≡ old.nodes + 1

-- What stays the same all along a dive.
pub record IsSameDive (old new : Growth) : Type 0 where
  pub base : new.base.value ≡ old.base.value
  pub granted : new.granted ≡ old.granted

-- The current leaf is next where nodes and backtracks are left; else none is, nor where the dive may be halted and is.
pub record GoesOn (g : Growth) (grant : ℕ) (timed : Bool) (next : Option Leaf) : Type 0 where
  pub current : IfSome next (λ leaf. g.current ≡ Some leaf)
  pub nodes : IfSome next (λ leaf. g.nodes < grant)
  pub left : IfSome next (λ leaf. 1 ≤ g.left)
  pub ends : next ≡ None → (grant ≤ g.nodes) ⊎ ((g.left ≡ 0) ⊎ ((g.current ≡ None) ⊎ (timed ≡ true)))

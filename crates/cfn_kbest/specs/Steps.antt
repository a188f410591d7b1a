-- Where the store of a search stands between two expansions.
use Rattle.std.specs.Prelude.{◌≡◌, true, false, ℕ, ◌<◌, Bool, List, [], ◌∷◌, length, slice_index_or, IfSome}
use Rattle.cfn_model.specs.declared.step.Event.{Event}
use Rattle.cfn_model.specs.declared.step.Event.TheVariants.{Took}
use Rattle.cfn_model.specs.Network.{Network}
use Rattle.cfn_model.specs.Steps.{IsDecision}
use Rattle.cfn_proof.specs.declared.tree.Node.{Node}
use Rattle.cfn_proof.specs.Nodes.{Before}
use Rattle.cfn_store.specs.Standing.{Standing, history}
use Rattle.cfn_edac.specs.Settling.{IsBehindSettled}
use Rattle.cfn_dive.specs.Enforcing.{IsSettledAt}
use Rattle.cfn_dive.specs.declared.parts.Parts.{Parts}
use Rattle.cfn_ranking.specs.Ranked.{Ranked, Waits}
use Rattle.cfn_kbest.specs.declared.steps.Child.{Child}
use Rattle.cfn_kbest.specs.declared.steps.Current.{Current}

-- A leaf waits, and the store stands there, with no step yet. The side that leads there from a place where the network was fully
-- consistent is known, if it was.
pub record IsAt (r : Ranked) (s : Standing) (current : Current) : Type 0 where
  pub waits : Waits r current.leaf.number
  pub only : (path : List Event) → Before r.nodes current.leaf.number path → path ≡ s.base
  pub block : s.block ≡ []
  pub since : IfSome current.since (IsBehindSettled s)

-- A child waits on the first side of a split behind which the store stands, with room for the decision.
pub record IsChild (P : Network) (p : Parts) (r : Ranked) (child : Child) : Type 0 where
  pub waits : Waits r child.leaf.number
  pub only : (path : List Event) → Before r.nodes child.leaf.number path → path ≡ Took child.decision ∷ history p.store
  pub decision : IsDecision P child.decision
  pub room : 0 < p.store.spare
  pub settled : child.settled ≡ true → IsSettledAt P (history p.store)

-- The newest event leads on from a place where the network was fully consistent at some threshold.
abbrev pub IsBehindPlace : Network → List Event → Type 0
IsBehindPlace P [] = ⊥
IsBehindPlace P (event ∷ before) = IsSettledAt P before

-- The mark beside a node, where there is one.
abbrev pub mark_at : List Bool → ℕ → Bool
mark_at marks i = slice_index_or marks i false

-- Beside each node there is a mark, and one that is set says that the node stands behind such a place.
pub record AreMarked (P : Network) (nodes : List Node) (marks : List Bool) : Type 0 where
  pub long : length marks ≡ length nodes
  pub settled : (i : ℕ) (path : List Event) → i < length nodes → mark_at marks i ≡ true → Before nodes i path → IsBehindPlace P path

-- A path ends by an event that leads on from such a place.
abbrev pub EndsBehindPlace : Network → List Event → Event → Type 0
EndsBehindPlace P path event = (above : List Event) × (path ≡ event ∷ above) × IsSettledAt P above

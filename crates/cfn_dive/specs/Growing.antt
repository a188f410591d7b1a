-- What holds of the tree that a dive makes, between two expansions.
use Rattle.std.specs.Prelude.{◌≡◌, ℕ, ◌+◌, ◌≤◌, ◌⊎◌, List, [], ◌∷◌, length}
use Rattle.cfn_model.specs.declared.step.Step.{Step}
use Rattle.cfn_model.specs.declared.step.Event.{Event}
use Rattle.cfn_model.specs.declared.step.Event.TheVariants.{Took, Refused}
use Rattle.cfn_model.specs.Network.{Network}
use Rattle.cfn_model.specs.Paths.{Tame}
use Rattle.cfn_model.specs.Steps.{after}
use Rattle.cfn_model.specs.Tree.{Tree, Open, Closed, Split, Valid, Strict, count}
use Rattle.cfn_consistency.specs.Consistency.{AreFullyConsistent}
use Rattle.cfn_consistency.specs.Groups.{AreOpenGroups}
use Rattle.cfn_proof.specs.declared.tree.Node.{Node}
use Rattle.cfn_proof.specs.Nodes.{tree_of}
use Rattle.cfn_store.specs.Standing.{Standing}
use Rattle.cfn_dive.specs.Enforcing.{IsRooted}
use Rattle.cfn_dive.specs.Limit.{step_limit}
use Rattle.cfn_explore.specs.Backtracks.{backtracks}

-- The steps of a block are what is enforced at the root of the whole tree, where virtual arc consistency makes steps too.
pub record IsRootBlock (P : Network) (block : List Step) : Type 0 where
  pub before : Standing
  pub now : Standing
  pub network : before.network ≡ P
  pub base : before.base ≡ []
  pub begins : before.block ≡ []
  pub rooted : IsRooted P before now
  pub block_is : now.block ≡ block

-- The steps of a block fall into groups, each of which gains something, and at the root into lifts and groups; the last one may
-- be unfinished.
abbrev pub InGroups : Network → List Event → List Step → Type 0
InGroups P history block = ((history ≡ []) × IsRootBlock P block) ⊎ AreOpenGroups P history block

-- A block's steps fall into groups, and behind it the network is fully consistent at its upper bound, or the block has all steps
-- that it may have.
abbrev pub IsEnforced : Network → List Event → List Step → Type 0
IsEnforced P history block = InGroups P history block × (AreFullyConsistent P (after block history) P.upper ⊎ (step_limit P ≤ length block))

-- This holds of the block of each split, and an open leaf has no step of its own.
abbrev pub AreEnforced : Network → List Event → Tree → Type 0
AreEnforced P history (Open block) = block ≡ []
AreEnforced P history (Closed block) = Unit {0}
AreEnforced P history (Split block d first second) =
    IsEnforced P history block × AreEnforced P (Took d ∷ after block history) first × AreEnforced P (Refused d ∷ after block history) second

-- Behind a base the tree is valid at a threshold, strict and tame; its splits are behind enforced blocks; each split and closed
-- leaf is counted, and its backtracks are those that were granted but for what is left of them.
pub record IsGrown (P : Network) (base : List Event) (k granted : ℕ) (nodes : List Node) (spent left : ℕ) : Type 0 where
  pub valid : Valid P base (tree_of nodes) k
  pub strict : Strict P base (tree_of nodes)
  pub tame : Tame P base (tree_of nodes)
  pub enforced : AreEnforced P base (tree_of nodes)
  pub counted : count (tree_of nodes) ≡ spent
  pub gone_back : backtracks (tree_of nodes) + left ≡ granted

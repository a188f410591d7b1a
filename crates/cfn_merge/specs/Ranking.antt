-- How trees are ranked.
use Rattle.std.specs.Prelude.{◌≡◌, ℕ, ◌<◌, ◌≤◌, List, length, None, slice_index_or}
use Rattle.cfn_model.specs.Tree as trees
use Rattle.cfn_model.specs.Tree.{count}
use Rattle.cfn_proof.specs.declared.tree.End.{End}
use Rattle.cfn_proof.specs.declared.tree.End.TheVariants.{Free, Shut, Split}
use Rattle.cfn_proof.specs.declared.tree.Node.{Node}
use Rattle.cfn_proof.specs.Nodes.{tree_at}
use Rattle.cfn_mending.specs.Joining.{height}
use Rattle.cfn_merge.specs.declared.rank.Rank.{Rank}

-- A rank is a tree's.
pub record IsRank (rank : Rank) (tree : trees.Tree) : Type 0 where
  pub height : rank.height ≡ height tree
  pub count : rank.count ≡ count tree

abbrev pub rank_at : List Rank → ℕ → Rank
rank_at ranks i = slice_index_or ranks i (record { height = None; count = 0 })

-- The children of an end have numbers below this.
abbrev pub AreBelow : ℕ → End → Type 0
AreBelow n Free = Unit {0}
AreBelow n Shut = Unit {0}
AreBelow n (Split d first second) = (first.number < n) × (second.number < n)

-- They are ranked as these trees.
abbrev pub AreRanked : List Rank → End → (ℕ → trees.Tree) → Type 0
AreRanked ranks Free child = Unit {0}
AreRanked ranks Shut child = Unit {0}
AreRanked ranks (Split d first second) child = IsRank (rank_at ranks first.number) (child first.number) × IsRank (rank_at ranks second.number) (child second.number)

-- Each node from a number on has the rank of its tree.
abbrev pub RankedFrom : List Node → ℕ → List Rank → Type 0
RankedFrom nodes low ranks = (length ranks ≡ length nodes) × ((i : ℕ) → low ≤ i → i < length nodes → IsRank (rank_at ranks i) (tree_at nodes i))

-- Each node has.
abbrev pub AreRanks : List Node → List Rank → Type 0
AreRanks nodes ranks = RankedFrom nodes 0 ranks

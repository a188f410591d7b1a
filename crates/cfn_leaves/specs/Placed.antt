-- The leaves of a tree in the table, where the tree has taken the place of a leaf.
use Rattle.std.specs.Prelude.{◌≡◌, ℕ, ◌+◌, ◌≤◌, ◌^◌, List, [], length, Option, Some}
use Rattle.cfn_model.specs.Network.{Network}
use Rattle.cfn_model.specs.Tree.{count, open_leaves}
use Rattle.cfn_proof.specs.declared.tree.Node.{Node}
use Rattle.cfn_proof.specs.Nodes.{moved, tree_of}
use Rattle.cfn_machine.specs.Pool.{Free, numbered}
use Rattle.cfn_leaves.specs.declared.entry.Entry.{Entry}
use Rattle.cfn_leaves.specs.declared.walk.Spot.{Spot}
use Rattle.cfn_leaves.specs.Standing.{entry}
use Rattle.cfn_leaves.specs.Listed.{outs}
use Rattle.cfn_leaves.specs.Value.{Holding, pool_tree}

-- A free leaf, by where its node stands once the tree's root has taken the place of the node i of n nodes.
abbrev pub placed : ℕ → ℕ → Spot → Option Entry
placed i n spot = Some (entry (moved i n spot.node.number) Free spot.floor)

-- Its number stays below 2^32 there.
abbrev pub FitsPlace : ℕ → Spot → Type 0
FitsPlace n spot = n + spot.node.number ≤ 2 ^ 32

-- At the opening with a tree: its open leaves are free and have the first numbers, and nothing is made or noted.
pub record IsOpening (P : Network) (tree : List Node) (budget : ℕ) (h : Holding) : Type 0 where
  pub network : h.network ≡ P
  pub tree_is : pool_tree h ≡ numbered 0 (tree_of tree)
  pub next : length h.table ≡ open_leaves (tree_of tree)
  pub budget_is : h.budget ≡ budget
  pub begun : h.begun ≡ count (tree_of tree)
  pub nodes : h.nodes ≡ 0
  pub rows : h.rows ≡ []
  pub none_out : outs h.table ≡ 0

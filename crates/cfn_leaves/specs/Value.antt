-- What contracts see of the leaves: the pool's state but for its view, for the network that it is of. The pool's tree is
-- seen as the nodes of the search tree and the table of its open leaves.
use Rattle.std.specs.Prelude.{◌≡◌, ℕ, ◌+◌, ◌≤◌, ◌^◌, List, length, Option}
use Rattle.cfn_model.specs.declared.report.Row.{Row}
use Rattle.cfn_model.specs.Network.{Network}
use Rattle.cfn_model.specs.Tree.{open_leaves}
use Rattle.cfn_queue.specs.Listing.{Listing}
use Rattle.cfn_proof.specs.declared.tree.Node.{Node}
use Rattle.cfn_machine.specs.Pool.{PoolTree, tree_of, granted, View, Pool}
use Rattle.cfn_leaves.specs.declared.entry.Entry.{Entry}
use Rattle.cfn_leaves.specs.Standing.{marked, Are}
use Rattle.cfn_leaves.specs.Listed.{IsListed, outs}

pub record Holding : Type 0 where
  pub network : Network
  pub tree : List Node
  pub table : List (Option Entry)
  pub budget : ℕ
  pub begun : ℕ
  pub nodes : ℕ
  pub rows : List Row

-- The pool's tree, and the pool that it is with a view.
abbrev pub pool_tree : Holding → PoolTree
pool_tree h = marked h.tree h.table

abbrev pub pool_of : Holding → View → Pool
pool_of h view = record { tree = pool_tree h; next = length h.table; budget = h.budget; begun = h.begun; nodes = h.nodes; rows = h.rows; view = view }

-- What is kept: the nodes of the tree and the table of its leaves, and the free leaves in the open list; how many leaves are
-- open, and how many nodes may still be made below those that are out.
pub record Body : Type 0 where
  pub nodes : List Node
  pub table : List (Option Entry)
  pub listing : Listing
  pub opened : ℕ
  pub granted : ℕ

-- It is this tree. A place in the list is kept for each leaf that is out.
pub record IsBody (P : Network) (b : Body) (tree : PoolTree) : Type 0 where
  pub are : Are P b.nodes b.table tree
  pub listed : IsListed b.table b.listing.leaves
  pub room : outs b.table ≤ b.listing.spare
  pub opened : b.opened ≡ open_leaves (tree_of tree)
  pub granted : b.granted ≡ granted tree
  pub both : b.opened ≡ length b.listing.leaves + outs b.table
  pub fits : b.opened ≤ length b.table
  pub few : length b.table ≤ 2 ^ 32

-- All that is kept: the nodes that are made and granted keep to the budget, and there is room for all rows.
pub record IsInside (P : Network) (b : Body) (budget made : ℕ) (noted : List Row) (capacity : ℕ) : Type 0 where
  pub body : IsBody P b (marked b.nodes b.table)
  pub within : made + b.granted ≤ budget
  pub few : length noted ≤ 256
  pub place : 256 ≤ capacity

-- What is kept after the leaves that a part of a search leaves to others were set aside.
use Rattle.std.specs.Prelude.{◌≡◌, ℕ, Bool, List, length, Option}
use Rattle.cfn_model.specs.Network.{Network}
use Rattle.cfn_queue.specs.Listing.{Listing}
use Rattle.cfn_proof.specs.declared.tree.Node.{Node}
use Rattle.cfn_machine.specs.Pool.{dealt}
use Rattle.cfn_leaves.specs.declared.entry.Entry.{Entry}
use Rattle.cfn_leaves.specs.Standing.{marked}
use Rattle.cfn_leaves.specs.Value.{Holding, IsBody, pool_tree}

-- Whatever else is kept, the table and the list stand for the tree in which the others' leaves are set aside.
pub record AllSetAside (mine : ℕ → Bool) (table : List (Option Entry)) (listing : Listing) (new : List (Option Entry)) (left : Listing) : Type 0 where
  pub len : length new ≡ length table
  pub body : (P : Network) (nodes : List Node) (opened granted : ℕ) →
      IsBody P (record { nodes = nodes; table = table; listing = listing; opened = opened; granted = granted }) (marked nodes table) →
      IsBody P (record { nodes = nodes; table = new; listing = left; opened = opened; granted = granted }) (dealt mine (marked nodes table))

-- The tree is the same but for the others' leaves, which are set aside.
pub record SetsAside (mine : ℕ → Bool) (old new : Holding) : Type 0 where
  pub same : new ≡ record old { table = new.table }
  pub tree_is : pool_tree new ≡ dealt mine (pool_tree old)
  pub len : length new.table ≡ length old.table

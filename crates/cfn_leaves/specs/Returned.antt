-- What is kept after every leaf that is out was freed.
use Rattle.std.specs.Prelude.{◌≡◌, ℕ, List, length, Option}
use Rattle.cfn_model.specs.Network.{Network}
use Rattle.cfn_queue.specs.Listing.{Listing}
use Rattle.cfn_proof.specs.declared.tree.Node.{Node}
use Rattle.cfn_machine.specs.Pool.{recalled}
use Rattle.cfn_leaves.specs.declared.entry.Entry.{Entry}
use Rattle.cfn_leaves.specs.Standing.{marked}
use Rattle.cfn_leaves.specs.Value.{IsBody}

-- Whatever else is kept, the table and the list stand for the tree with all leaves called back, and nothing is granted.
pub record AllFreed (table : List (Option Entry)) (listing : Listing) (new : List (Option Entry)) (left : Listing) : Type 0 where
  pub len : length new ≡ length table
  pub body : (P : Network) (nodes : List Node) (opened granted : ℕ) →
      IsBody P (record { nodes = nodes; table = table; listing = listing; opened = opened; granted = granted }) (marked nodes table) →
      IsBody P (record { nodes = nodes; table = new; listing = left; opened = opened; granted = 0 }) (recalled (marked nodes table))

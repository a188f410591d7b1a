-- The leaves stand for a pool, with 32 bits for each number of its tree, and an entry is done to both.
use Rattle.std.specs.Prelude.{◌≡◌, ℕ, Bool, true, false, List}
use Rattle.cfn_model.specs.Network.{Network}
use Rattle.cfn_model.specs.Tree.{Tree}
use Rattle.cfn_machine.specs.Pool.{Pool, AreNumbered}
use Rattle.cfn_proof.specs.declared.tree.Node.{Node}
use Rattle.cfn_proof.specs.Nodes.{tree_of}
use Rattle.cfn_leaves.specs.declared.placed.Placed.{Placed}
use Rattle.cfn_leaves.specs.declared.placed.Placed.TheVariants as placing
use Rattle.cfn_leaves.specs.Value.{Holding, pool_of}
use Rattle.cfn_record.specs.Entries.{Entry, Gave, Follows}
use Rattle.cfn_record.specs.Fault.{KeepsGrant, IsSeen}
use Rattle.cfn_replay.specs.Capping.{cap_pool, cap_tree}

pub record IsHeld (P : Network) (pool : Pool) (h : Holding) : Type 0 where
  pub network : h.network ≡ P
  pub own : AreNumbered pool
  pub is : pool_of h pool.view ≡ cap_pool pool

-- The entry is done to the pool, and the leaves stand for what it leaves.
pub record Does (P : Network) (pool : Pool) (entry : Entry) (h : Holding) : Type 0 where
  pub new : Pool
  pub follows : Follows P pool entry new
  pub held : IsHeld P new h

-- It can't be done.
abbrev pub Never : Network → Pool → Entry → Type 0
Never P pool entry = (new : Pool) → Follows P pool entry new → ⊥

-- A piece is given, whatever its tree was before each number got 32 bits.
abbrev pub DoesGive : Holding → ℕ → ℕ → ℕ → List Node → Holding → Type 0
DoesGive old worker leaf grant nodes new = (P : Network) (pool : Pool) (threshold seen : ℕ) (tree : Tree) → IsHeld P pool old → tree_of nodes ≡ cap_tree tree → KeepsGrant grant tree → IsSeen pool threshold seen
    → Does P pool (Gave worker leaf grant threshold seen tree) new

-- A tree has taken its leaf's place.
abbrev pub is_done : Placed → Bool
is_done placing.Done = true
is_done (placing.Gone tree) = false
is_done (placing.Memory tree) = false

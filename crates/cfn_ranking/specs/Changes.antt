-- What is asked of a change, and what it makes.
use Rattle.std.specs.Prelude.{◌≡◌, ℕ, ◌+◌, ◌<◌, ◌≤◌, List, [], ◌∷◌, ◌++◌, length, slice_index_or, slice_set, min, None, Some}
use Rattle.std.specs.List.{insert}
use Rattle.cfn_model.specs.declared.step.Step.{Step}
use Rattle.cfn_model.specs.declared.step.Decision.{Decision}
use Rattle.cfn_model.specs.declared.step.Event.{Event}
use Rattle.cfn_model.specs.Network.{Network}
use Rattle.cfn_model.specs.Sums.{floor}
use Rattle.cfn_model.specs.Steps.{Run, IsDecision, after}
use Rattle.cfn_model.specs.Paths.{TameBlock}
use Rattle.cfn_model.specs.Tree.{CanClose, IsStrictSplit}
use Rattle.cfn_model.specs.Certificate.{Solution, IsSolution}
use Rattle.cfn_proof.specs.declared.tree.NodeId.{NodeId}
use Rattle.cfn_proof.specs.declared.tree.Node.{Node}
use Rattle.cfn_proof.specs.Nodes.{node_at, Before, IsFree, IsLinked, split_behind_at, close_at, leave_at}
use Rattle.cfn_ranking.specs.declared.list.Listed.{Listed}
use Rattle.cfn_ranking.specs.Certificates.{solution_of, solutions_of}
use Rattle.cfn_best.specs.List.{IsBefore}
use Rattle.cfn_ranking.specs.Ranked.{Ranked, IsFound, HasLeaf}

-- A block runs behind a history at a threshold, and costs stay small along it.
pub record Runs (P : Network) (history : List Event) (k : ℕ) (block : List Step) : Type 0 where
  pub run : Run P history block k
  pub tame : TameBlock P history block

-- A leaf may be split behind a block, where the floor is this.
pub record CanDivide (P : Network) (history : List Event) (k : ℕ) (block : List Step) (d : Decision) (low : ℕ) : Type 0 where
  pub runs : Runs P history k block
  pub decision : IsDecision P d
  pub strict : IsStrictSplit P (after block history) d
  pub floor_is : low ≡ floor P (after block history)

-- It may be closed behind a block.
pub record MayClose (P : Network) (history : List Event) (k : ℕ) (block : List Step) : Type 0 where
  pub runs : Runs P history k block
  pub closes : CanClose P (after block history) k

-- One assignment is left behind a block, and costs less than the threshold.
pub record Leaves (P : Network) (history : List Event) (k : ℕ) (block : List Step) (s : Solution) : Type 0 where
  pub runs : Runs P history k block
  pub found : IsFound P s (after block history)
  pub solution : IsSolution P s
  pub cheap : s.cost < k

-- A leaf split behind a block, both of whose children have this floor.
abbrev pub divided : Ranked → ℕ → List Step → Decision → ℕ → Ranked
divided r i block d low = record r {
  nodes = split_behind_at r.nodes i block d;
  floors = r.floors ++ low ∷ low ∷ [];
  numbers = r.numbers ++ None ∷ None ∷ [];
  spent = r.spent + 1;
}

-- A leaf closed behind a block.
abbrev pub closed : Ranked → ℕ → List Step → Ranked
closed r i block = record r { nodes = close_at r.nodes i block; spent = r.spent + 1 }

-- A leaf closed behind its own block, which counts for nothing.
abbrev pub shut : Ranked → ℕ → Ranked
shut r i = record r { nodes = close_at r.nodes i (node_at r.nodes i).block }

-- The last of a list is taken out, with its leaf, which is closed behind its own block.
pub record Drops (nodes : List Node) (list : List Listed) (leaves : List NodeId) (less : List Node) (rest : List Listed) (others : List NodeId) : Type 0 where
  pub last : Listed
  pub leaf : NodeId
  pub list_is : list ≡ rest ++ last ∷ []
  pub leaves_are : leaves ≡ others ++ leaf ∷ []
  pub there : leaf.number < length nodes
  pub free : IsFree nodes leaf.number
  pub shut : less ≡ close_at nodes leaf.number (node_at nodes leaf.number).block

-- Where a list has as many as are asked for, its last is taken out; else nothing is.
pub data MakesRoom (count : ℕ) (nodes : List Node) (list : List Listed) (leaves : List NodeId) (less : List Node) (rest : List Listed) (others : List NodeId) : Type 0 where
  has_room : (length list ≡ count → ⊥) → less ≡ nodes → rest ≡ list → others ≡ leaves → MakesRoom count nodes list leaves less rest others
  drops : length list ≡ count → Drops nodes list leaves less rest others → MakesRoom count nodes list leaves less rest others

-- An assignment put into the list at a place, and its leaf, which stays open behind a block.
abbrev pub entered : Ranked → NodeId → List Step → ℕ → Solution → Ranked
entered r leaf block p s = record r {
  nodes = leave_at r.nodes leaf.number block;
  numbers = slice_set r.numbers leaf.number (Some 0);
  list = insert r.list p s;
  leaves = insert r.leaves p leaf;
  spent = r.spent + 1;
}

-- A leaf is none of the list, and there is a number for it.
pub record CanStay (r : Ranked) (i : ℕ) : Type 0 where
  pub numbered : i < length r.numbers
  pub none : HasLeaf r.leaves i → ⊥

-- An assignment enters the list, in which room was made.
pub record Exchanges (r : Ranked) (leaf : NodeId) (block : List Step) (p : ℕ) (listed : Listed) (new : Ranked) : Type 0 where
  pub items : List Listed
  pub rest : List Listed
  pub others : List NodeId
  pub less : List Node
  pub list_is : r.list ≡ solutions_of items
  pub linked : IsLinked less
  pub room : MakesRoom r.count r.nodes items r.leaves less rest others
  pub is : new ≡ entered (record r { nodes = less; list = solutions_of rest; leaves = others }) leaf block (min p (length rest)) (solution_of listed)

-- There are as many nodes as before, and what stands before one stood before it.
pub record KeepsPaths (old new : List Node) : Type 0 where
  pub long : length new ≡ length old
  pub before : (i : ℕ) (history : List Event) → Before new i history → Before old i history

-- The place of an assignment in a list: all before it come before it, and it comes before the next.
pub record IsPlaceOf (list : List Solution) (s : Solution) (p : ℕ) : Type 0 where
  pub within : p ≤ length list
  pub behind : (i : ℕ) (other : Solution) → i < p → IsBefore (slice_index_or list i other) s
  pub before : (other : Solution) → p < length list → IsBefore s (slice_index_or list p other)

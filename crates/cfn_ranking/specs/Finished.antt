-- What a ranking comes to where its search ends.
use Rattle.std.specs.Prelude.{◌≡◌, ℕ, ◌+◌, ◌<◌, ◌≤◌, ◌⊎◌, List, [], length, slice_index_or, Option, Some}
use Rattle.cfn_model.specs.Network.{Network}
use Rattle.cfn_model.specs.Tree.{count, splits, Strict}
use Rattle.cfn_proof.specs.declared.tree.NodeId.{NodeId}
use Rattle.cfn_best.specs.Tree.{bound}
use Rattle.cfn_best.specs.List.{ListCertificate, GoodList, threshold_of}
use Rattle.cfn_ranking.specs.Trees.{number_at, plain, OpenBelow}
use Rattle.cfn_ranking.specs.Ranked.{Ranked, IsRanked, Waits, HasLeaf, floor_at}

-- Leaves that wait are below the threshold, and nothing else has changed but that others were closed.
pub record IsSwept (P : Network) (old new : Ranked) : Type 0 where
  pub ranked : IsRanked P new
  pub same : new ≡ record old { nodes = new.nodes }
  pub below : (i : ℕ) → Waits new i → floor_at new.floors i < new.threshold

-- The same of one node: where it waits, it is below the threshold.
pub record IsSweptAt (P : Network) (i : ℕ) (old new : Ranked) : Type 0 where
  pub ranked : IsRanked P new
  pub same : new ≡ record old { nodes = new.nodes }
  pub long : length new.nodes ≡ length old.nodes
  pub below : Waits new i → floor_at new.floors i < new.threshold
  pub others : (j : ℕ) → Waits new j → Waits old j

-- The lesser of a number and the floor of a node that waits.
pub record IsLesserAt (r : Ranked) (i least result : ℕ) : Type 0 where
  pub most : result ≤ least
  pub here : Waits r i → result ≤ floor_at r.floors i
  pub attained : (result ≡ least) ⊎ (Waits r i × (result ≡ floor_at r.floors i))

-- The least of the threshold and the floors of the waiting leaves below a number.
pub record IsLeastFloor (r : Ranked) (n least : ℕ) : Type 0 where
  pub most : least ≤ r.threshold
  pub each : (i : ℕ) → i < n → Waits r i → least ≤ floor_at r.floors i
  pub attained : (least ≡ r.threshold) ⊎ ((i : ℕ) × Waits r i × (least ≡ floor_at r.floors i))

-- The numbers of some leaves are below a number.
abbrev pub AreThere : ℕ → List NodeId → Type 0
AreThere n leaves = (i : ℕ) → HasLeaf leaves i → i < n

-- A number is the place of a leaf among others.
pub record IsNumbered (leaves : List NodeId) (i : ℕ) (number : Option ℕ) : Type 0 where
  pub place : ℕ
  pub is : number ≡ Some place
  pub within : place < length leaves
  pub leaf : (other : NodeId) → (slice_index_or leaves place other).number ≡ i

-- So many of the leaves, from the first on, have the number of a place; and what has another number than it had is one of them.
pub record AreNumberedSoFar (leaves : List NodeId) (n : ℕ) (old new : List (Option ℕ)) : Type 0 where
  pub same : length new ≡ length old
  pub each : (j : ℕ) (other : NodeId) → j < n → IsNumbered leaves (slice_index_or leaves j other).number (number_at new (slice_index_or leaves j other).number)
  pub others : (i : ℕ) → (HasLeaf leaves i → ⊥) → number_at new i ≡ number_at old i

-- Each of the leaves has the number of a place of it, and the others have the numbers that they had.
pub record AreNumbered (leaves : List NodeId) (old new : List (Option ℕ)) : Type 0 where
  pub same : length new ≡ length old
  pub each : (i : ℕ) → HasLeaf leaves i → IsNumbered leaves i (number_at new i)
  pub others : (i : ℕ) → (HasLeaf leaves i → ⊥) → number_at new i ≡ number_at old i

-- The threshold of a list.
abbrev pub threshold : ListCertificate → ℕ
threshold c = threshold_of c.upper c.count c.list

-- A good list of so many assignments at most, from so many expanded leaves: its lower bound is that of its tree, whose open
-- leaves have floors below the threshold; its splits are strict, and each was an expanded leaf; and each expanded leaf is a split,
-- a closed leaf or that of a listed assignment.
pub record IsListOf (P : Network) (asked spent : ℕ) (c : ListCertificate) : Type 0 where
  pub good : GoodList P c
  pub asked_is : c.count ≡ asked
  pub lower : c.lower ≡ bound P [] c.tree (threshold c)
  pub below : OpenBelow P [] c.tree (threshold c)
  pub strict : Strict P [] (plain c.tree)
  pub expanded : splits (plain c.tree) ≤ spent
  pub counted : spent ≤ count (plain c.tree) + length c.list

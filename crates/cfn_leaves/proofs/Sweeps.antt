-- A sweep goes over the list of free leaves.
use Rattle.std.proofs.Common.{◌≡◌, ℕ, ◌+◌, ◌<◌, ◌≤◌, List, [], ◌∷◌, length, drop, get_or, sym, ap, ◌∙◌, subst, IsPermutation}
use Rattle.std.specs.List.{filter}
use Rattle.std.proofs.lemmas.List.{drop_more, drop_all}
use Rattle.cfn_queue.specs.declared.list.OpenLeaf.{OpenLeaf}
use Rattle.cfn_queue.specs.Listing.{Listing}
use Rattle.cfn_proof.specs.Local.{BeforeOnceLaw}
use Rattle.cfn_machine.specs.Pool.{swept}
use Rattle.cfn_leaves.specs.declared.leaves.Leaves.TheInside.{Inside}
use Rattle.cfn_leaves.specs.Standing.{marked}
use Rattle.cfn_leaves.specs.Value.{IsBody}
use Rattle.cfn_leaves.proofs.ClosedFree.{Sweeping, is_from, ahead, stay, ahead_high, ahead_low, ended}
use Rattle.cfn_leaves.proofs.Insides.{body}

-- where it stands: the leaves ahead that are high are still to be closed, and all that is no part of the tree is as before
abbrev pub IsSweeping : ℕ → Inside → Inside → List OpenLeaf → Type 0
IsSweeping k first now high = Sweeping now.network.value k (marked first.tree first.table.items) (length first.table.items) (body now) high (stay k first.list.leaves)

pub record SweepsOn (k : ℕ) (first now : Inside) (i : ℕ) : Type 0 where
  pub sweeping : IsSweeping k first now (ahead k first.list.leaves i)
  pub list : now.list ≡ first.list
  pub network : now.network ≡ first.network
  pub granted : now.granted ≡ first.granted
  pub budget : now.budget ≡ first.budget
  pub begun : now.begun ≡ first.begun
  pub nodes : now.nodes ≡ first.nodes
  pub rows : now.rows ≡ first.rows

next_is : (leaves : List OpenLeaf) (i : ℕ) (leaf : OpenLeaf) → i < length leaves → leaf ≡ get_or leaves i leaf → drop i leaves ≡ leaf ∷ drop (i + 1) leaves
next_is leaves i leaf below is = drop_more leaves i leaf below ∙ ap (λ l. l ∷ drop (i + 1) leaves) (sym is)

-- the next leaf is to be closed, or it stays
pub next_high : (k : ℕ) (first now : Inside) (i : ℕ) (leaf : OpenLeaf) → SweepsOn k first now i → i < length first.list.leaves → leaf ≡ get_or now.list.leaves i leaf → k ≤ leaf.floor → IsSweeping k first now (leaf ∷ ahead k first.list.leaves (i + 1))
next_high k first now i leaf on below is high =
    subst (IsSweeping k first now) (ahead_high k first.list.leaves i leaf (next_is first.list.leaves i leaf below (subst (λ (l : _). leaf ≡ get_or l.leaves i leaf) on.list is)) high) on.sweeping

pub next_low : (k : ℕ) (first now : Inside) (i : ℕ) (leaf : OpenLeaf) → SweepsOn k first now i → i < length first.list.leaves → leaf ≡ get_or now.list.leaves i leaf → leaf.floor < k → SweepsOn k first now (i + 1)
next_low k first now i leaf on below is low = record {
  sweeping = subst (IsSweeping k first now) (ahead_low k first.list.leaves i leaf (next_is first.list.leaves i leaf below (subst (λ (l : _). leaf ≡ get_or l.leaves i leaf) on.list is)) low) on.sweeping;
  list = on.list;
  network = on.network;
  granted = on.granted;
  budget = on.budget;
  begun = on.begun;
  nodes = on.nodes;
  rows = on.rows;
}

-- behind the last leaf, where the list has those that stay
none_ahead : (k : ℕ) (leaves : List OpenLeaf) (i : ℕ) → length leaves ≤ i → ahead k leaves i ≡ []
none_ahead k leaves i far = ap (filter (is_from k)) (drop_all i leaves far)

pub all_swept : (k : ℕ) (first now : Inside) (i : ℕ) (kept : Listing) → BeforeOnceLaw → SweepsOn k first now i → length first.list.leaves ≤ i → IsPermutation (stay k now.list.leaves) kept.leaves → kept.spare + length kept.leaves ≡ now.list.spare + length now.list.leaves →
    (marked now.tree now.table.items ≡ swept now.network.value k (marked first.tree first.table.items) []) × IsBody now.network.value (record (body now) { listing = kept }) (marked now.tree now.table.items)
all_swept k first now i kept once on far permuted room =
    ended now.network.value k (marked first.tree first.table.items) (length first.table.items) (body now) (stay k first.list.leaves) kept once
    (subst (IsSweeping k first now) (none_ahead k first.list.leaves i far) on.sweeping)
    (subst (λ (l : _). IsPermutation (stay k l.leaves) kept.leaves) on.list permuted) room

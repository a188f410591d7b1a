-- Which entries of the table are of active leaves with floors below a threshold.
use Rattle.std.proofs.Common.{◌≡◌, ℕ, ◌<◌, ◌≤◌, List, refl, sym, ap, ◌∙◌, arith, Option, Some, None, Bool, true, false, if◌then◌else◌, ltb-true, ltb-false}
use Rattle.std.specs.Prelude.{not, ◌==◌, nat_lt}
use Rattle.std.specs.List.{list_any}
use Rattle.std.proofs.lemmas.Bool.{and_parts, and_from}
use Rattle.std.proofs.lemmas.List.{get_or_default}
use Rattle.std.proofs.lemmas.List.Folds.{Any-from_list_any, list_any_at}
use Rattle.cfn_model.specs.Network.{Network}
use Rattle.cfn_model.specs.Sums.{floor}
use Rattle.cfn_proof.specs.Local.{BeforeOnceLaw}
use Rattle.cfn_machine.specs.Parts.{HasActiveBelow, NoneActiveBelow}
use Rattle.cfn_machine.specs.Pool.{Mark, Free, Out, PoolTree, active_mark}
use Rattle.cfn_leaves.specs.declared.entry.Entry.{Entry}
use Rattle.cfn_leaves.specs.Read.{active, active_below}
use Rattle.cfn_leaves.specs.Standing.{entry, entry_at, held_mark}
use Rattle.cfn_leaves.specs.Value.{Body, IsBody}
use Rattle.cfn_leaves.proofs.Bodies.{is_held}
use Rattle.cfn_leaves.proofs.Marks.{entry_there}
use Rattle.cfn_leaves.proofs.Trees.{leaf_node}

-- a mark in the table is active where the leaf is
one_of : (t : Bool) → not t ≡ true → ◌≡◌ {A = ℕ} (if t then 0 else 1) 1
one_of true is = absurd (cc)
one_of false is = refl

not_of : (t : Bool) → ◌≡◌ {A = ℕ} (if t then 0 else 1) 1 → not t ≡ true
not_of true is = absurd (omega (arith, is))
not_of false is = refl

active_is : (mark : Mark) → active (held_mark mark) ≡ true → active_mark mark ≡ 1
active_is Free is = refl
active_is (Out worker grant) is = one_of (grant == 0) is

is_active : (mark : Mark) → active_mark mark ≡ 1 → active (held_mark mark) ≡ true
is_active Free is = refl
is_active (Out worker grant) is = not_of (grant == 0) is

-- an entry that passes the test
abbrev Passes : ℕ → List (Option Entry) → Type 0
Passes k table = (n : ℕ) × (e : Entry) × (entry_at table n ≡ Some e) × (active e.mark ≡ true) × (e.floor < k)

passes_at : (k : ℕ) (table : List (Option Entry)) (n : ℕ) (o : Option Entry) → entry_at table n ≡ o → active_below k o ≡ true → Passes k table
passes_at k table n None is passes = absurd (cc)
passes_at k table n (Some e) is passes = let both = and_parts (active e.mark) (nat_lt e.floor k) passes in (n, e, is, both.0, ltb-true _ _ both.1)

passes : (k : ℕ) (table : List (Option Entry)) → list_any (active_below k) table ≡ true → Passes k table
passes k table is =
    let a = Any-from_list_any (active_below k) table is in
    passes_at k table a.0 a.1 (get_or_default table a.0 None a.1 a.2 ∙ a.3) a.4

module _ (P : Network) (b : Body) (tree : PoolTree) (once : BeforeOnceLaw) (body : IsBody P b tree) (k : ℕ) where
  pub some_active : list_any (active_below k) b.table ≡ true → HasActiveBelow P tree k
  some_active is =
      let a = passes k b.table is in
      let h = is_held P b tree a.0 a.1 once body a.2 in
      (a.0, h.mark, h.path, h.leaf, active_is h.mark (ap active (sym h.mark_is) ∙ a.3), (let e = h.floor_is in let below = a.4 in omega (arith, e, below)))

  pub none_active : list_any (active_below k) b.table ≡ false → NoneActiveBelow P tree k
  none_active none n mark path at is = by_floor (nat_lt (floor P path) k) refl
    where
      by_floor : (t : Bool) → nat_lt (floor P path) k ≡ t → k ≤ floor P path
      by_floor false far = ltb-false _ _ far
      by_floor true near =
          let node = leaf_node P b.nodes b.table tree once body.are n mark path at in
          let e = entry node.node mark (floor P path) in
          let passed : active_below k (entry_at b.table n) ≡ true = ap (active_below k) node.is ∙ and_from (active e.mark) (nat_lt e.floor k) (is_active mark is) near in
          let found : list_any (active_below k) b.table ≡ true = list_any_at (active_below k) b.table n None (entry_there b.table n e node.is) passed in
          absurd (let h : true ≡ false = sym found ∙ none in cc)

-- A piece in the place of its leaf.
use Rattle.std.proofs.Common.{◌≡◌, ◌≢◌, ℕ, zero, suc, ◌+◌, ◌-◌, ◌<◌, ◌≤◌, inl, inr, List, [], ◌∷◌, ◌++◌, map, length, set, replicate, refl, sym, ap, ◌∙◌, subst, arith, Option, Some, None, append-nil, length-append, Bool, true, false, if◌then◌else◌, ◌==◌, eqb-true}
use Rattle.std.proofs.lemmas.Bool.{cases_eq, cases_lt}
use Rattle.std.proofs.lemmas.List.{get_or_append_left, get_or-set_same, get_or-set_other, length-set, length-map, length-replicate}
use Rattle.std.proofs.lemmas.List.Sums.{sum_by-append, sum_by-cons}
use Rattle.cfn_model.specs.declared.step.Event.{Event}
use Rattle.cfn_model.specs.declared.step.Event.TheVariants.{Took, Refused}
use Rattle.cfn_model.specs.Network.{Network}
use Rattle.cfn_model.specs.Sums.{floor}
use Rattle.cfn_model.specs.Steps.{after}
use Rattle.cfn_model.specs.Tree.{Tree, Open, Closed, Split, open_leaves}
use Rattle.cfn_proof.specs.declared.tree.End.TheVariants as ends
use Rattle.cfn_proof.specs.declared.tree.Node.{Node}
use Rattle.cfn_proof.specs.Nodes.{node_at, tree_of, IsLinked, moved, graft_at}
use Rattle.cfn_proof.specs.Local.{BeforeOnceLaw}
use Rattle.cfn_proof.proofs.CallerLemmas.{graft_at-other, length-graft_at}
use Rattle.cfn_machine.specs.Pool.{Mark, Free, PoolTree, Leaf, Shut, Fork, IsLeaf, leaves_with, numbered}
use Rattle.cfn_machine.proofs.CallerLemmas.{numbered_before, numbered_once}
use Rattle.cfn_leaves.specs.declared.entry.Mark.TheVariants as held
use Rattle.cfn_leaves.specs.declared.entry.Entry.{Entry}
use Rattle.cfn_leaves.specs.declared.walk.Spot.{Spot}
use Rattle.cfn_leaves.specs.Standing.{entry_at, entry, held_mark, Stands, Are}
use Rattle.cfn_leaves.specs.Listed.{outs, out_entry}
use Rattle.cfn_leaves.specs.Walked.{spots_of}
use Rattle.cfn_leaves.specs.Placed.{placed}
use Rattle.cfn_leaves.proofs.Trees.{leaf_node, same_some, some_none}
use Rattle.cfn_leaves.proofs.Marks.{Becomes, becomes, away, entry_there}
use Rattle.cfn_leaves.proofs.Seats.{seated, spots_count, root_moves, unmoved}

-- an entry is that of a leaf that is moved with its node
same_parts : (a b low low' : ℕ) (mark : Mark) → Some (entry a Free low) ≡ Some (entry b mark low') → (a ≡ b) × (held.Free ≡ held_mark mark) × (low ≡ low')
same_parts a b low low' mark h =
    let e = same_some h in (ap (λ (e : Entry). e.node.number) e, ap (λ (e : Entry). e.mark) e, ap (λ (e : Entry). e.floor) e)

moved_entry : (i n a b low low' : ℕ) (mark : Mark) → Some (entry (moved 0 1 a) Free low) ≡ Some (entry b mark low') → Some (entry (moved i n a) Free low) ≡ Some (entry (moved i n b) mark low')
moved_entry i n a b low low' mark h =
    let same = same_parts (moved 0 1 a) b low low' mark h in
    ap (λ j. Some (record { node = record { number = moved i n j }; mark = held.Free; floor = low })) (sym (unmoved a) ∙ same.0)
    ∙ ap (λ m. Some (record { node = record { number = moved i n b }; mark = m; floor = low })) same.1
    ∙ ap (λ f. Some (record { node = record { number = moved i n b }; mark = held_mark mark; floor = f })) same.2

spot_moves : (i n : ℕ) (spots : List Spot) (m a : ℕ) (k : Mark) (low : ℕ) → entry_at (map (placed 0 1) spots) m ≡ Some (entry a k low) → entry_at (map (placed i n) spots) m ≡ Some (entry (moved i n a) k low)
spot_moves i n [] m a k low h = some_none h
spot_moves i n (spot ∷ spots) zero a k low h = moved_entry i n spot.node.number a spot.floor low k h
spot_moves i n (spot ∷ spots) (suc m) a k low h = spot_moves i n spots m a k low h

entry_moves : (i n : ℕ) (spots : List Spot) (back : List (Option Entry)) (m a : ℕ) (k : Mark) (low : ℕ) → entry_at (replicate (length back) None ++ map (placed 0 1) spots) m ≡ Some (entry a k low) →
    entry_at (back ++ map (placed i n) spots) m ≡ Some (entry (moved i n a) k low)
entry_moves i n spots [] m a k low h = spot_moves i n spots m a k low h
entry_moves i n spots (o ∷ back) zero a k low h = some_none h
entry_moves i n spots (o ∷ back) (suc m) a k low h = entry_moves i n spots back m a k low h

-- each number of a numbered tree is that of a leaf, and a number that counts is one
pub numbered_has : (tree : Tree) (next k : ℕ) (history : List Event) → k < open_leaves tree → (path : List Event) × IsLeaf (numbered next tree) history (next + k) Free path
numbered_has (Open block) next k history h = (after block history, (omega (arith, h), refl, refl))
numbered_has (Closed block) next k history h = absurd (omega (arith, h))
numbered_has (Split block d first second) next k history h = elim (cases_lt k (open_leaves first)) [
  | inl less ↦ (let below = numbered_has first next k (Took d ∷ after block history) less in (below.0, inl below.1))
  | inr far ↦
      (let below = numbered_has second (next + open_leaves first) (k - open_leaves first) (Refused d ∷ after block history) (omega (arith, h, far)) in
      let same : next + open_leaves first + (k - open_leaves first) ≡ next + k = omega (arith, far) in
      (below.0, inr (subst (λ m. IsLeaf (numbered (next + open_leaves first) second) (Refused d ∷ after block history) m Free below.0) same below.1)))
]

counted : (m : ℕ) (tree : PoolTree) (history : List Event) → 1 ≤ leaves_with m tree → (mark : Mark) × ((path : List Event) × IsLeaf tree history m mark path)
counted m (Leaf number mark block) history h = elim (cases_eq number m) [
  | inl same ↦ (mark, (after block history, (same, refl, refl)))
  | inr other ↦ absurd (none number m block mark history other h)
] where
  none : (number m : ℕ) (block : _) (mark : Mark) (history : List Event) → number ≢ m → 1 ≤ leaves_with m (Leaf number mark block) → ⊥
  none number m block mark history other h = by_test (number == m) (λ t. other (eqb-true number m t)) h where
    by_test : (b : Bool) → (b ≡ true → ⊥) → 1 ≤ (if b then 1 else 0) → ⊥
    by_test true not h = not refl
    by_test false not h = omega (arith, h)
counted m (Shut block) history h = absurd (omega (arith, h))
counted m (Fork block d first second) history h = elim (cases_lt 0 (leaves_with m first)) [
  | inl some ↦ (let below = counted m first (Took d ∷ after block history) some in (below.0, (below.1.0, inl below.1.1)))
  | inr none ↦ (let below = counted m second (Refused d ∷ after block history) (omega (arith, h, none)) in (below.0, (below.1.0, inr below.1.1)))
]

-- nothing of a piece is out
pub outs_behind : (table : List (Option Entry)) (i n : ℕ) (spots : List Spot) → outs (table ++ map (placed i n) spots) ≡ outs table
outs_behind table i n spots = let sum = sum_by-append out_entry table (map (placed i n) spots) in omega (arith, sum, no_outs spots) where
  no_outs : (spots : List Spot) → outs (map (placed i n) spots) ≡ 0
  no_outs [] = refl
  no_outs (spot ∷ spots) = let sum = sum_by-cons out_entry (placed i n spot) (map (placed i n) spots) in omega (arith, sum, no_outs spots)

module _ (P : Network) (nodes : List Node) (table : List (Option Entry)) (tree : PoolTree) (once : BeforeOnceLaw) (are : Are P nodes table tree) (n : ℕ) (mark : Mark) (path : List Event) (leaf : IsLeaf tree [] n mark path) where
  pub grafted : (piece : List Node) (e : Entry) → entry_at table n ≡ Some e → IsLinked piece → IsLinked (graft_at nodes e.node.number piece) →
      Becomes P (graft_at nodes e.node.number piece) (set table n None ++ map (placed e.node.number (length nodes)) (spots_of piece (floor P path))) tree n mark path (numbered (length table) (tree_of piece))
  grafted piece e is inner linked =
      let node = leaf_node P nodes table tree once are n mark path leaf in
      let i = e.node.number in
      let e_is : e ≡ entry node.node mark (floor P path) = same_some (sym is ∙ node.is) in
      let at : node.node ≡ i = sym (ap (λ (e : Entry). e.node.number) e_is) in
      let within : i < length nodes = subst (λ i. i < length nodes) at node.there in
      let there = entry_there table n e is in
      let next = length table in
      let spots = spots_of piece (floor P path) in
      let back = set table n None in
      let more = back ++ map (placed i (length nodes)) spots in
      let size : length back ≡ next = length-set table n None in
      let count : length spots ≡ open_leaves (tree_of piece) = spots_count P piece inner (length piece) 0 (floor P path) inner.some (omega arith) in
      let own = replicate (length back) None ++ map (placed 0 1) spots in
      let stands : Stands P piece own 0 path (numbered next (tree_of piece)) =
      seated P piece inner (length piece) 0 (floor P path) next path own (replicate (length back) None) [] inner.some (omega arith) refl (ap (λ l. replicate (length back) None ++ l) (sym (append-nil (map (placed 0 1) spots)))) (length-replicate (length back) None ∙ size) in
      let low : (m : ℕ) → m < next → entry_at more m ≡ entry_at back m = λ m h. get_or_append_left back (map (placed i (length nodes)) spots) None m (omega (arith, h, size)) in
      let none : entry_at more n ≡ None = low n there ∙ get_or-set_same table n None None there in
      becomes P nodes table tree once are n mark path leaf (graft_at nodes i piece) more (numbered next (tree_of piece)) e is linked
      (record {
        no_fewer = omega (arith, length-graft_at nodes i piece within inner.some, inner.some);
        free = subst (λ i. (node_at nodes i).end ≡ ends.Free) at node.free;
        others = λ j h other. graft_at-other nodes i piece within inner.some j h other;
        entries = λ m f other was. low m (entry_there table m f was) ∙ get_or-set_other table n m _ None other ∙ was;
        away = away P nodes table tree once are n mark path leaf e is;
      })
      (λ history path_is. root_moves P nodes i piece inner within own more (λ m a k f h. entry_moves i (length nodes) spots back m a k f h) path history (numbered next (tree_of piece)) path_is stands)
      (λ m. elim (cases_lt m next) [
        | inl less ↦ (let nothing = numbered_before (tree_of piece) next m less in let d = are.different m in omega (arith, nothing, d))
        | inr far ↦
            (let few = numbered_once (tree_of piece) next m in
            elim (cases_lt 0 (leaves_with m tree)) [
              | inr nothing ↦ omega (arith, nothing, few)
              | inl some ↦ absurd (let was = counted m tree [] some in let node = leaf_node P nodes table tree once are m was.0 was.1.0 was.1.1 in let h = entry_there table m (entry node.node was.0 (floor P was.1.0)) node.is in omega (arith, h, far))
            ])
      ])
      (λ m f at. elim (cases_lt m next) [
        | inl less ↦ elim (cases_eq m n) [
          | inl same ↦ some_none (sym none ∙ sym (ap (entry_at more) same) ∙ at)
          | inr other ↦ inl (other, sym (low m less ∙ get_or-set_other table n m _ None other) ∙ at)
        ]
        | inr far ↦
            (let h = entry_there more m f at in
            let long = length-append back (map (placed i (length nodes)) spots) in
            let k : m - next < open_leaves (tree_of piece) = omega (arith, h, long, size, length-map spots (placed i (length nodes)), count, far) in
            let has = numbered_has (tree_of piece) next (m - next) path k in
            let same : next + (m - next) ≡ m = omega (arith, far) in
            inr (Free, (has.0, subst (λ m. IsLeaf (numbered next (tree_of piece)) path m Free has.0) same has.1)))
      ])

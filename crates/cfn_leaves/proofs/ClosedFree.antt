-- Free leaves are closed, one after the other.
use Rattle.std.proofs.Common.{drop, not, cond, ◌≡◌, ℕ, ◌+◌, ◌-◌, ◌<◌, ◌≤◌, ◌^◌, inl, inr, List, [], ◌∷◌, ◌++◌, length, set, refl, sym, ap, ap₂, ◌∙◌, subst, arith, Option, Some, None, append-nil, IsPermutation, All, length-append, true, false, Bool, if◌then◌else◌, nat_le, le-leb, leb-true}
use Rattle.std.proofs.lemmas.List.{length-set, get_or-set_same, get_or-set_other}
use Rattle.std.proofs.lemmas.List.Sorted.{IsPermutation-refl, IsPermutation-trans, IsPermutation-append_comm, IsPermutation-filter_both, All-permutation, sum_by-IsPermutation, length_permutation}
use Rattle.std.proofs.lemmas.List.Elements.{All-head, All-tail, All-contains, All-weaker, filter_passes}
use Rattle.std.proofs.lemmas.Bool.Decides.{nat_tests}
use Rattle.std.specs.List.{filter}
use Rattle.cfn_model.specs.declared.step.Event.{Event}
use Rattle.cfn_model.specs.declared.step.Event.TheVariants.{Took, Refused}
use Rattle.cfn_model.specs.declared.step.Step.{Step}
use Rattle.cfn_model.specs.Network.{Network}
use Rattle.cfn_model.specs.Sums.{floor}
use Rattle.cfn_model.specs.Steps.{after}
use Rattle.cfn_model.specs.Tree.{open_leaves}
use Rattle.cfn_queue.specs.declared.list.OpenLeaf.{OpenLeaf}
use Rattle.cfn_queue.specs.Listing.{Listing, is_below}
use Rattle.cfn_proof.specs.declared.tree.Node.{Node}
use Rattle.cfn_proof.specs.Nodes.{node_at, IsLinked, IsFree, close_at}
use Rattle.cfn_proof.specs.Local.{BeforeOnceLaw}
use Rattle.cfn_machine.specs.Pool.{Mark, Free, Out, PoolTree, Leaf, Shut, Fork, IsLeaf, Replaced, granted, swept, tree_of}
use Rattle.cfn_machine.proofs.CallerLemmas.{replaced_granted}
use Rattle.cfn_leaves.specs.declared.entry.Mark.TheVariants as held
use Rattle.cfn_leaves.specs.declared.entry.Entry.{Entry}
use Rattle.cfn_leaves.specs.Standing.{entry_at, entry, marked, Are}
use Rattle.cfn_leaves.specs.Listed.{outs, out_entry, out_mark, free_entry, is_numbered, IsFreeIn, IsListed}
use Rattle.cfn_leaves.specs.Swept.{IsBelow, IsFrom}
use Rattle.cfn_leaves.specs.Value.{Body, IsBody}
use Rattle.cfn_leaves.proofs.Trees.{marked_is, leaf_node, same_some}
use Rattle.cfn_leaves.proofs.Marks.{closed, entry_there, replaced_opened}
use Rattle.cfn_leaves.proofs.Lists.{listed_less, free_listed, outs_set}
use Rattle.cfn_leaves.proofs.Bodies.{free_is}

-- the list in another order
pub listed_again : (table : List (Option Entry)) (leaves new : List OpenLeaf) → IsPermutation leaves new → IsListed table leaves → IsListed table new
listed_again table leaves new permuted listed = record {
  each = All-permutation (IsFreeIn table) leaves new permuted listed.each;
  once = λ n. sum_by-IsPermutation (is_numbered n) leaves new permuted ∙ listed.once n;
}

-- the swept tree stays where a leaf that it closes is closed
tested : (b : Bool) (shut leaf : PoolTree) → b ≡ true → (if b then shut else leaf) ≡ shut
tested true shut leaf h = refl
tested false shut leaf h = absurd (cc)

not_tested : (b : Bool) (shut leaf : PoolTree) → (b ≡ true → ⊥) → (if b then shut else leaf) ≡ leaf
not_tested true shut leaf h = absurd (h refl)
not_tested false shut leaf h = refl

swept_free : (P : Network) (k n : ℕ) (mark : Mark) (block : List Step) (history : List Event) → mark ≡ Free → k ≤ floor P (after block history) → swept P k (Leaf n mark block) history ≡ Shut block
swept_free P k n Free block history is high = tested (nat_le k (floor P (after block history))) (Shut block) (Leaf n Free block) (le-leb _ _ high)
swept_free P k n (Out worker grant) block history is high = absurd (let h : Out worker grant ≡ Free = is in cc)

pub swept_same : (P : Network) (k n : ℕ) (path : List Event) (tree : PoolTree) (history : List Event) (new : PoolTree) → Replaced tree history n Free path (Shut []) new → k ≤ floor P path → swept P k new history ≡ swept P k tree history
swept_same P k n path (Leaf number mark block) history new at high =
    ap (λ t. swept P k t history) at.3 ∙ ap Shut (append-nil block) ∙ sym (swept_free P k number mark block history at.1 (subst (λ p. k ≤ floor P p) at.2 high))
swept_same P k n path (Shut block) history new at high = absurd at
swept_same P k n path (Fork block d first second) history new (inl at) high =
    ap (λ t. swept P k t history) at.2 ∙ ap (λ t. Fork block d t (swept P k second (Refused d ∷ after block history))) (swept_same P k n path first (Took d ∷ after block history) at.0 at.1 high)
swept_same P k n path (Fork block d first second) history new (inr at) high =
    ap (λ t. swept P k t history) at.2 ∙ ap (λ t. Fork block d (swept P k first (Took d ∷ after block history)) t) (swept_same P k n path second (Refused d ∷ after block history) at.0 at.1 high)

-- where each free leaf's floor is lower it is the tree
pub swept_none : (P : Network) (k : ℕ) (tree : PoolTree) (history : List Event) → ((n : ℕ) (path : List Event) → IsLeaf tree history n Free path → floor P path < k) → swept P k tree history ≡ tree
swept_none P k (Leaf number Free block) history low =
    not_tested (nat_le k (floor P (after block history))) (Shut block) (Leaf number Free block) (λ h. (let l = low number (after block history) (refl, refl, refl) in let m = leb-true _ _ h in omega (arith, l, m)))
swept_none P k (Leaf number (Out worker grant) block) history low = refl
swept_none P k (Shut block) history low = refl
swept_none P k (Fork block d first second) history low =
    ap₂ (λ f s. Fork block d f s)
    (swept_none P k first (Took d ∷ after block history) (λ n path at. low n path (inl at)))
    (swept_none P k second (Refused d ∷ after block history) (λ n path at. low n path (inr at)))

-- the leaves that a sweep closes, and those that stay
abbrev pub is_from : ℕ → OpenLeaf → Bool
is_from k leaf = not (is_below k leaf)

abbrev pub ahead : ℕ → List OpenLeaf → ℕ → List OpenLeaf
ahead k leaves i = filter (is_from k) (drop i leaves)

abbrev pub stay : ℕ → List OpenLeaf → List OpenLeaf
stay k leaves = filter (is_below k) leaves

passes : (b : Bool) (leaf : OpenLeaf) (rest : List OpenLeaf) → b ≡ true → cond b (leaf ∷ rest) rest ≡ leaf ∷ rest
passes true leaf rest is = refl
passes false leaf rest is = absurd (cc)

fails : (b : Bool) (leaf : OpenLeaf) (rest : List OpenLeaf) → b ≡ false → cond b (leaf ∷ rest) rest ≡ rest
fails false leaf rest is = refl
fails true leaf rest is = absurd (cc)

pub ahead_high : (k : ℕ) (leaves : List OpenLeaf) (i : ℕ) (leaf : OpenLeaf) → drop i leaves ≡ leaf ∷ drop (i + 1) leaves → k ≤ leaf.floor → ahead k leaves i ≡ leaf ∷ ahead k leaves (i + 1)
ahead_high k leaves i leaf next high = let from : is_from k leaf ≡ true = grind (arith, nat_tests) in ap (filter (is_from k)) next ∙ passes (is_from k leaf) leaf (ahead k leaves (i + 1)) from

pub ahead_low : (k : ℕ) (leaves : List OpenLeaf) (i : ℕ) (leaf : OpenLeaf) → drop i leaves ≡ leaf ∷ drop (i + 1) leaves → leaf.floor < k → ahead k leaves i ≡ ahead k leaves (i + 1)
ahead_low k leaves i leaf next low = let from : is_from k leaf ≡ false = grind (arith, nat_tests) in ap (filter (is_from k)) next ∙ fails (is_from k leaf) leaf (ahead k leaves (i + 1)) from

is_low : (k : ℕ) (leaf : OpenLeaf) → is_below k leaf ≡ true → IsBelow k leaf
is_low k leaf is = grind (arith, nat_tests)

is_high : (k : ℕ) (leaf : OpenLeaf) → is_from k leaf ≡ true → IsFrom k leaf
is_high k leaf is = grind (arith, nat_tests)

-- what is kept on the way: the leaves ahead are high and those that stay are low, and the swept tree is as before
pub record Sweeping (P : Network) (k : ℕ) (first : PoolTree) (len : ℕ) (b : Body) (high low : List OpenLeaf) : Type 0 where
  pub are : Are P b.nodes b.table (marked b.nodes b.table)
  pub listed : IsListed b.table (high ++ low)
  pub below : All (IsBelow k) low
  pub from : All (IsFrom k) high
  pub room : outs b.table ≤ b.listing.spare
  pub fewer : length low ≤ length b.listing.leaves
  pub opened : b.opened ≡ open_leaves (tree_of (marked b.nodes b.table))
  pub granted : b.granted ≡ granted (marked b.nodes b.table)
  pub both : b.opened ≡ length high + length low + outs b.table
  pub fits : b.opened ≤ length b.table
  pub few : length b.table ≤ 2 ^ 32
  pub long : length b.table ≡ len
  pub same : swept P k (marked b.nodes b.table) [] ≡ swept P k first []

pub begun : (P : Network) (k : ℕ) (b : Body) → IsBody P b (marked b.nodes b.table) → Sweeping P k (marked b.nodes b.table) (length b.table) b (ahead k b.listing.leaves 0) (stay k b.listing.leaves)
begun P k b body =
    let leaves = b.listing.leaves in
    let permuted = IsPermutation-trans leaves (stay k leaves ++ ahead k leaves 0) (ahead k leaves 0 ++ stay k leaves)
    (IsPermutation-filter_both (is_below k) (is_from k) (λ leaf. refl) leaves) (IsPermutation-append_comm (stay k leaves) (ahead k leaves 0)) in
    let long = length_permutation leaves (ahead k leaves 0 ++ stay k leaves) permuted in
    let both = length-append (ahead k leaves 0) (stay k leaves) in
    record {
      are = body.are;
      listed = listed_again b.table leaves (ahead k leaves 0 ++ stay k leaves) permuted body.listed;
      below = All-weaker (λ leaf. is_below k leaf ≡ true) (IsBelow k) (is_low k) (stay k leaves) (filter_passes (is_below k) leaves);
      from = All-weaker (λ leaf. is_from k leaf ≡ true) (IsFrom k) (is_high k) (ahead k leaves 0) (filter_passes (is_from k) leaves);
      room = body.room;
      fewer = omega (arith, long, both);
      opened = body.opened;
      granted = body.granted;
      both = omega (arith, body.both, long, both);
      fits = body.fits;
      few = body.few;
      long = refl;
      same = refl;
    }

-- the leaf that comes next is free, and its node is there
pub record IsNext (P : Network) (k : ℕ) (b : Body) (leaf : OpenLeaf) (e : Entry) : Type 0 where
  pub path : List Event
  pub leaf_is : IsLeaf (marked b.nodes b.table) [] leaf.leaf Free path
  pub high : k ≤ floor P path
  pub there : e.node.number < length b.nodes
  pub free : IsFree b.nodes e.node.number
  pub held : leaf.leaf < length b.table
  pub none_out : out_entry (entry_at b.table leaf.leaf) ≡ 0

pub next_listed : (P : Network) (k : ℕ) (first : PoolTree) (len : ℕ) (b : Body) (leaf : OpenLeaf) (rest low : List OpenLeaf) → Sweeping P k first len b (leaf ∷ rest) low → IsFreeIn b.table leaf
next_listed P k first len b leaf rest low on = All-head (IsFreeIn b.table) leaf (rest ++ low) on.listed.each

pub is_next : (P : Network) (k : ℕ) (first : PoolTree) (len : ℕ) (b : Body) (leaf : OpenLeaf) (rest low : List OpenLeaf) (e : Entry) → BeforeOnceLaw → Sweeping P k first len b (leaf ∷ rest) low → entry_at b.table leaf.leaf ≡ Some e → IsNext P k b leaf e
is_next P k first len b leaf rest low e once on is =
    let own = next_listed P k first len b leaf rest low on in
    let same : own.entry ≡ e = same_some (sym own.is ∙ is) in
    let is_free : e.mark ≡ held.Free = ap (λ (e : Entry). e.mark) (sym same) ∙ own.free in
    let there = on.are.there leaf.leaf e is in
    let node = leaf_node P b.nodes b.table (marked b.nodes b.table) once on.are leaf.leaf there.0 there.1.0 there.1.1 in
    let e_is : e ≡ entry node.node there.0 (floor P there.1.0) = same_some (sym is ∙ node.is) in
    let at : node.node ≡ e.node.number = sym (ap (λ (e : Entry). e.node.number) e_is) in
    let mark = free_is there.0 (sym is_free ∙ ap (λ (e : Entry). e.mark) e_is) in
    let floor_is : leaf.floor ≡ floor P there.1.0 = sym own.floor ∙ ap (λ (e : Entry). e.floor) (same ∙ e_is) in
    let high : k ≤ leaf.floor = All-head (IsFrom k) leaf rest on.from in
    record {
      path = there.1.0;
      leaf_is = subst (λ m. IsLeaf (marked b.nodes b.table) [] leaf.leaf m there.1.0) mark there.1.1;
      high = omega (arith, high, floor_is);
      there = subst (λ i. i < length b.nodes) at node.there;
      free = subst (IsFree b.nodes) at node.free;
      held = entry_there b.table leaf.leaf e is;
      none_out = ap out_entry is ∙ ap out_mark is_free;
    }

pub closes : (P : Network) (k : ℕ) (first : PoolTree) (len : ℕ) (b : Body) (leaf : OpenLeaf) (rest low : List OpenLeaf) (e : Entry) (nodes : List Node) (table : List (Option Entry)) → BeforeOnceLaw → Sweeping P k first len b (leaf ∷ rest) low →
    entry_at b.table leaf.leaf ≡ Some e → nodes ≡ close_at b.nodes e.node.number (node_at b.nodes e.node.number).block → IsLinked nodes → table ≡ set b.table leaf.leaf None →
    (1 ≤ b.opened) × Sweeping P k first len (record b { nodes = nodes; table = table; opened = b.opened - 1 }) rest low
closes P k first len b leaf rest low e nodes table once on is nodes_is linked table_is =
    let next = is_next P k first len b leaf rest low e once on is in
    let tree = marked b.nodes b.table in
    let c = closed P b.nodes b.table tree once on.are leaf.leaf Free next.path next.leaf_is e is (subst IsLinked nodes_is linked) in
    let are : Are P nodes table c.tree' = subst (λ t. Are P nodes t c.tree') (sym table_is) (subst (λ n. Are P n (set b.table leaf.leaf None) c.tree') (sym nodes_is) c.are) in
    let new : marked nodes table ≡ c.tree' = marked_is P nodes table c.tree' once are in
    let opened' = replaced_opened leaf.leaf Free next.path (Shut []) tree [] c.tree' c.replaced in
    let granted' = replaced_granted leaf.leaf Free next.path (Shut []) tree [] c.tree' c.replaced in
    let count : outs table + out_entry (entry_at b.table leaf.leaf) ≡ outs b.table + 0 = ap (λ t. outs t + out_entry (entry_at b.table leaf.leaf)) table_is ∙ outs_set b.table leaf.leaf None next.held in
    let none : free_entry (entry_at table leaf.leaf) ≡ 0 = ap (λ t. free_entry (entry_at t leaf.leaf)) table_is ∙ ap free_entry (get_or-set_same b.table leaf.leaf None None next.held) in
    let size : length table ≡ length b.table = ap length table_is ∙ length-set b.table leaf.leaf None in (
      omega (arith, on.opened, opened'),
      record {
        are = subst (Are P nodes table) (sym new) are;
        listed = listed_less b.table table (leaf ∷ (rest ++ low)) (rest ++ low) leaf on.listed (IsPermutation-refl (leaf ∷ (rest ++ low)))
            (λ m other. ap (λ t. entry_at t m) table_is ∙ get_or-set_other b.table leaf.leaf m _ None other) none;
        below = on.below;
        from = All-tail (IsFrom k) leaf rest on.from;
        room = omega (arith, count, next.none_out, on.room);
        fewer = on.fewer;
        opened = omega (arith, on.opened, opened', ap (λ t. open_leaves (tree_of t)) new);
        granted = omega (arith, on.granted, granted', ap granted new);
        both = omega (arith, on.both, count, next.none_out, on.opened, opened');
        fits = omega (arith, size, on.fits);
        few = omega (arith, size, on.few);
        long = size ∙ on.long;
        same = ap (λ t. swept P k t []) new ∙ swept_same P k leaf.leaf next.path tree [] c.tree' c.replaced next.high ∙ on.same;
      },
    )

-- when none is ahead the tree is swept, and those that stay are the list
pub ended : (P : Network) (k : ℕ) (first : PoolTree) (len : ℕ) (b : Body) (low : List OpenLeaf) (kept : Listing) → BeforeOnceLaw → Sweeping P k first len b [] low → IsPermutation low kept.leaves → kept.spare + length kept.leaves ≡ b.listing.spare + length b.listing.leaves →
    (marked b.nodes b.table ≡ swept P k first []) × IsBody P (record b { listing = kept }) (marked b.nodes b.table)
ended P k first len b low kept once on permuted room =
    let tree = marked b.nodes b.table in
    let long = length_permutation low kept.leaves permuted in
    let lower : (n : ℕ) (path : List Event) → IsLeaf tree [] n Free path → floor P path < k = λ n path leaf.
    let node = leaf_node P b.nodes b.table tree once on.are n Free path leaf in
    let l = free_listed b.table low n (entry node.node Free (floor P path)) on.listed node.is refl in
    let below = All-contains (IsBelow k) low l.0 on.below l.1 in
    omega (arith, below, l.3) in (
      sym (swept_none P k tree [] lower) ∙ on.same,
      record {
        are = on.are;
        listed = listed_again b.table low kept.leaves permuted on.listed;
        room = omega (arith, on.room, on.fewer, room, long);
        opened = on.opened;
        granted = on.granted;
        both = omega (arith, on.both, long);
        fits = on.fits;
        few = on.few;
      },
    )

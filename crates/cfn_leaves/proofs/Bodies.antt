-- What is kept stands for the tree after a change of one leaf.
use Rattle.std.proofs.Common.{◌≡◌, ℕ, ◌+◌, ◌-◌, ◌<◌, ◌≤◌, ◌⊎◌, List, [], ◌∷◌, length, set, refl, sym, ap, ◌∙◌, subst, arith, Some, None, IsPermutation}
use Rattle.std.proofs.lemmas.List.{length-set, get_or-set_same, get_or-set_other}
use Rattle.std.proofs.lemmas.List.Sorted.{length_permutation}
use Rattle.std.proofs.lemmas.List.Elements.{All-contains}
use Rattle.cfn_model.specs.declared.step.Event.{Event}
use Rattle.cfn_model.specs.Network.{Network}
use Rattle.cfn_model.specs.Sums.{floor}
use Rattle.cfn_queue.specs.declared.list.OpenLeaf.{OpenLeaf}
use Rattle.cfn_queue.specs.Listing.{Listing, IsLeast, IsBefore}
use Rattle.cfn_proof.specs.declared.tree.Node.{Node}
use Rattle.cfn_proof.specs.Nodes.{node_at, IsFree, IsLinked}
use Rattle.cfn_proof.specs.Local.{BeforeOnceLaw}
use Rattle.cfn_model.specs.Steps.{after}
use Rattle.cfn_leaves.specs.Ways.{IsPathOf}
use Rattle.cfn_machine.specs.Pool.{Mark, Free, Out, PoolTree, Leaf, IsLeaf, Replaced}
use Rattle.cfn_machine.specs.Steps.{IsFirst}
use Rattle.cfn_machine.proofs.CallerLemmas.{replaced_granted}
use Rattle.cfn_leaves.specs.declared.entry.Mark.TheVariants as held
use Rattle.cfn_leaves.specs.declared.entry.Entry.{Entry}
use Rattle.cfn_leaves.specs.Standing.{entry_at, held_mark, entry}
use Rattle.cfn_leaves.specs.Listed.{free_entry, out_entry, outs, free_mark, out_mark, IsFreeIn}
use Rattle.cfn_leaves.specs.Value.{Body, IsBody}
use Rattle.cfn_leaves.proofs.Trees.{leaf_node, same_some}
use Rattle.cfn_leaves.proofs.Marks.{Becomes, remarked, entry_there, replaced_opened}
use Rattle.cfn_leaves.proofs.Lists.{listed_less, listed_more, free_listed, outs_set, out_counts}

-- a node has one path
pub path_once : (nodes : List Node) (i : ℕ) (path other : List Event) → BeforeOnceLaw → IsLinked nodes → IsPathOf nodes i path → IsPathOf nodes i other → path ≡ other
path_once nodes i path other once linked of also = of.is ∙ ap (after (node_at nodes i).block) (once nodes i of.above also.above linked of.before also.before) ∙ sym also.is

-- a leaf of the table
pub record IsHeld (P : Network) (b : Body) (tree : PoolTree) (n : ℕ) (e : Entry) : Type 0 where
  pub mark : Mark
  pub path : List Event
  pub leaf : IsLeaf tree [] n mark path
  pub mark_is : e.mark ≡ held_mark mark
  pub floor_is : e.floor ≡ floor P path
  pub there : e.node.number < length b.nodes
  pub free : IsFree b.nodes e.node.number
  pub of : IsPathOf b.nodes e.node.number path

pub is_held : (P : Network) (b : Body) (tree : PoolTree) (n : ℕ) (e : Entry) → BeforeOnceLaw → IsBody P b tree → entry_at b.table n ≡ Some e → IsHeld P b tree n e
is_held P b tree n e once body is =
    let leaf = body.are.there n e is in
    let node = leaf_node P b.nodes b.table tree once body.are n leaf.0 leaf.1.0 leaf.1.1 in
    let e_is : e ≡ entry node.node leaf.0 (floor P leaf.1.0) = same_some (sym is ∙ node.is) in
    let at : node.node ≡ e.node.number = sym (ap (λ (e : Entry). e.node.number) e_is) in
    record {
      mark = leaf.0;
      path = leaf.1.0;
      leaf = leaf.1.1;
      mark_is = ap (λ (e : Entry). e.mark) e_is;
      floor_is = ap (λ (e : Entry). e.floor) e_is;
      there = subst (λ i. i < length b.nodes) at node.there;
      free = subst (IsFree b.nodes) at node.free;
      of = subst (λ i. IsPathOf b.nodes i leaf.1.0) at node.of;
    }

pub free_is : (mark : Mark) → held.Free ≡ held_mark mark → mark ≡ Free
free_is Free h = refl
free_is (Out worker grant) h = absurd (let k : held.Free ≡ held.Out worker grant = h in cc)

pub out_is : (mark : Mark) (worker grant : ℕ) → held.Out worker grant ≡ held_mark mark → mark ≡ Out worker grant
out_is Free worker grant h = absurd (let k : held.Out worker grant ≡ held.Free = h in cc)
out_is (Out w g) worker grant h = let k : held.Out worker grant ≡ held.Out w g = h in cc

-- the least leaf of the list is the first free leaf of the tree
pub record IsFirstHeld (P : Network) (b : Body) (tree : PoolTree) (first : OpenLeaf) (e : Entry) : Type 0 where
  pub path : List Event
  pub is : IsFirst P tree first.leaf path
  pub of : IsPathOf b.nodes e.node.number path
  pub floor_is : first.floor ≡ floor P path
  pub free : e.mark ≡ held.Free

pub first_entry : (P : Network) (b : Body) (tree : PoolTree) (first : OpenLeaf) → IsBody P b tree → IsLeast b.listing.leaves first → IsFreeIn b.table first
first_entry P b tree first body least = All-contains (IsFreeIn b.table) b.listing.leaves first body.listed.each least.there

pub first_held : (P : Network) (b : Body) (tree : PoolTree) (first : OpenLeaf) (e : Entry) → BeforeOnceLaw → IsBody P b tree → IsLeast b.listing.leaves first → entry_at b.table first.leaf ≡ Some e → IsFirstHeld P b tree first e
first_held P b tree first e once body least is =
    let own = first_entry P b tree first body least in
    let same : own.entry ≡ e = same_some (sym own.is ∙ is) in
    let is_free : e.mark ≡ held.Free = ap (λ (e : Entry). e.mark) (sym same) ∙ own.free in
    let h = is_held P b tree first.leaf e once body is in
    let mark = free_is h.mark (sym is_free ∙ h.mark_is) in
    let low : first.floor ≡ floor P h.path = sym own.floor ∙ ap (λ (e : Entry). e.floor) same ∙ h.floor_is in
    record {
      path = h.path;
      is = record {
        leaf = subst (λ k. IsLeaf tree [] first.leaf k h.path) mark h.leaf;
        first = λ m other leaf.
            let node = leaf_node P b.nodes b.table tree once body.are m Free other leaf in
            let listed = free_listed b.table b.listing.leaves m (entry node.node Free (floor P other)) body.listed node.is refl in
            let before = All-contains (IsBefore first) b.listing.leaves listed.0 least.first listed.1 in
            subst (λ f. (f < floor P other) ⊎ ((f ≡ floor P other) × (first.leaf ≤ m))) low
            (subst (λ f. (first.floor < f) ⊎ ((first.floor ≡ f) × (first.leaf ≤ m))) listed.3
            (subst (λ m. (first.floor < listed.0.floor) ⊎ ((first.floor ≡ listed.0.floor) × (first.leaf ≤ m))) listed.2 before));
      };
      of = h.of;
      floor_is = low;
      free = is_free;
    }

-- the body that is left stands for the tree where the leaf has another mark
pub record IsLeft (P : Network) (b : Body) (tree : PoolTree) (n : ℕ) (mark : Mark) (path : List Event) (place : PoolTree) : Type 0 where
  pub tree' : PoolTree
  pub replaced : Replaced tree [] n mark path place tree'
  pub body : IsBody P b tree'

-- a free leaf is taken out of the list
pub body_taken : (P : Network) (b : Body) (tree : PoolTree) (first : OpenLeaf) (e : Entry) (path : List Event) (worker grant : ℕ) (listing : Listing) → BeforeOnceLaw → IsBody P b tree →
    IsLeaf tree [] first.leaf Free path → entry_at b.table first.leaf ≡ Some e → e.mark ≡ held.Free → IsPermutation b.listing.leaves (first ∷ listing.leaves) → listing.spare ≡ b.listing.spare + 1 →
    IsLeft P (record b { table = set b.table first.leaf (Some (record e { mark = held.Out worker grant })); listing = listing; granted = b.granted + grant }) tree first.leaf Free path (Leaf first.leaf (Out worker grant) [])
body_taken P b tree first e path worker grant listing once body leaf is is_free permuted spare =
    let n = first.leaf in
    let there = entry_there b.table n e is in
    let new = set b.table n (Some (record e { mark = held.Out worker grant })) in
    let b' : Becomes P b.nodes new tree n Free path (Leaf n (Out worker grant) []) = remarked P b.nodes b.table tree once body.are n Free path leaf (Out worker grant) e is in
    let own : entry_at new n ≡ Some (record e { mark = held.Out worker grant }) = get_or-set_same b.table n _ None there in
    let was : out_entry (entry_at b.table n) ≡ 0 = ap out_entry is ∙ ap out_mark is_free in
    let outs' : outs new + out_entry (entry_at b.table n) ≡ outs b.table + 1 = outs_set b.table n _ there in
    let long = length_permutation b.listing.leaves (first ∷ listing.leaves) permuted in
    let opened' = replaced_opened n Free path (Leaf n (Out worker grant) []) tree [] b'.tree' b'.replaced in
    let granted' = replaced_granted n Free path (Leaf n (Out worker grant) []) tree [] b'.tree' b'.replaced in
    record {
      tree' = b'.tree';
      replaced = b'.replaced;
      body = record {
        are = b'.are;
        listed = listed_less b.table new b.listing.leaves listing.leaves first body.listed permuted (λ m other. get_or-set_other b.table n m _ None other) (ap free_entry own);
        room = omega (arith, outs', was, spare, body.room);
        opened = omega (arith, body.opened, opened');
        granted = omega (arith, body.granted, granted');
        both = omega (arith, outs', was, long, body.both, opened');
        fits = omega (arith, length-set b.table n (Some (record e { mark = held.Out worker grant })), body.fits);
        few = omega (arith, length-set b.table n (Some (record e { mark = held.Out worker grant })), body.few);
      };
    }

-- a leaf that is out is put back into the list
pub body_freed : (P : Network) (b : Body) (tree : PoolTree) (n : ℕ) (e : Entry) (path : List Event) (worker grant : ℕ) (leaf : OpenLeaf) (listing : Listing) → BeforeOnceLaw → IsBody P b tree →
    IsLeaf tree [] n (Out worker grant) path → entry_at b.table n ≡ Some e → e.mark ≡ held.Out worker grant → leaf.leaf ≡ n → leaf.floor ≡ e.floor → IsPermutation (leaf ∷ b.listing.leaves) listing.leaves → b.listing.spare ≤ listing.spare + 1 →
    IsLeft P (record b { table = set b.table n (Some (record e { mark = held.Free })); listing = listing; granted = b.granted - grant }) tree n (Out worker grant) path (Leaf n Free [])
body_freed P b tree n e path worker grant leaf listing once body at is is_out number low permuted spare =
    let there = entry_there b.table n e is in
    let new = set b.table n (Some (record e { mark = held.Free })) in
    let b' : Becomes P b.nodes new tree n (Out worker grant) path (Leaf n Free []) = remarked P b.nodes b.table tree once body.are n (Out worker grant) path at Free e is in
    let own : entry_at new n ≡ Some (record e { mark = held.Free }) = get_or-set_same b.table n _ None there in
    let was : out_entry (entry_at b.table n) ≡ 1 = ap out_entry is ∙ ap out_mark is_out in
    let not_free : free_entry (entry_at b.table n) ≡ 0 = ap free_entry is ∙ ap free_mark is_out in
    let outs' : outs new + out_entry (entry_at b.table n) ≡ outs b.table + 0 = outs_set b.table n _ there in
    let some = out_counts b.table n there in
    let long = length_permutation (leaf ∷ b.listing.leaves) listing.leaves permuted in
    let opened' = replaced_opened n (Out worker grant) path (Leaf n Free []) tree [] b'.tree' b'.replaced in
    let granted' = replaced_granted n (Out worker grant) path (Leaf n Free []) tree [] b'.tree' b'.replaced in
    record {
      tree' = b'.tree';
      replaced = b'.replaced;
      body = record {
        are = b'.are;
        listed = listed_more b.table new b.listing.leaves listing.leaves leaf body.listed permuted (λ m other. get_or-set_other b.table n m _ None (λ same. other (same ∙ sym number))) (ap (λ k. free_entry (entry_at b.table k)) number ∙ not_free)
            (record { entry = record e { mark = held.Free }; is = ap (entry_at new) number ∙ own; free = refl; floor = sym low });
        room = omega (arith, outs', was, spare, body.room);
        opened = omega (arith, body.opened, opened');
        granted = omega (arith, body.granted, granted');
        both = omega (arith, outs', was, some, long, body.both, opened');
        fits = omega (arith, length-set b.table n (Some (record e { mark = held.Free })), body.fits);
        few = omega (arith, length-set b.table n (Some (record e { mark = held.Free })), body.few);
      };
    }

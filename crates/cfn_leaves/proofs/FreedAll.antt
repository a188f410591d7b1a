-- All leaves that are out are freed, in the order of their numbers.
use Rattle.std.proofs.Common.{◌≡◌, ◌≢◌, ℕ, ◌+◌, ◌-◌, ◌<◌, ◌≤◌, inl, inr, List, [], ◌∷◌, length, set, refl, sym, ap, ◌∙◌, subst, arith, Option, Some, None, IsPermutation}
use Rattle.std.proofs.lemmas.Bool.{cases_eq}
use Rattle.std.proofs.lemmas.List.{length-set, get_or-set_same, get_or-set_other}
use Rattle.cfn_model.specs.declared.step.Event.{Event}
use Rattle.cfn_model.specs.Network.{Network}
use Rattle.cfn_queue.specs.Listing.{Listing}
use Rattle.cfn_proof.specs.declared.tree.Node.{Node}
use Rattle.cfn_proof.specs.Local.{BeforeOnceLaw}
use Rattle.cfn_machine.specs.Pool.{Out, PoolTree, IsLeaf, granted, recalled}
use Rattle.cfn_machine.proofs.CallerLemmas.{recalled_granted}
use Rattle.cfn_model.specs.Sums.{floor}
use Rattle.cfn_leaves.specs.declared.entry.Mark.TheVariants as held
use Rattle.cfn_leaves.specs.declared.entry.Entry.{Entry}
use Rattle.cfn_leaves.specs.Standing.{entry_at, entry, marked}
use Rattle.cfn_leaves.specs.Listed.{outs, out_entry, out_mark}
use Rattle.cfn_leaves.specs.Returned.{AllFreed}
use Rattle.cfn_leaves.specs.Value.{Holding, IsBody}
use Rattle.cfn_leaves.proofs.Trees.{leaf_node}
use Rattle.cfn_leaves.proofs.Marks.{entry_there}
use Rattle.cfn_leaves.proofs.Lists.{outs_set, out_counts}
use Rattle.cfn_leaves.proofs.Recalled.{freed, recalled_same, recalled_all, some_out}

-- what else is kept stands for a tree that is the same with its leaves called back
pub record GoesOn (P : Network) (nodes : List Node) (table : List (Option Entry)) (listing : Listing) (opened : ℕ) (tree : PoolTree) : Type 0 where
  pub given : ℕ
  pub body : IsBody P (record { nodes = nodes; table = table; listing = listing; opened = opened; granted = given }) (marked nodes table)
  pub same : recalled (marked nodes table) ≡ recalled tree

pub record Goes (table : List (Option Entry)) (listing : Listing) (new : List (Option Entry)) (left : Listing) (number : ℕ) : Type 0 where
  pub len : length new ≡ length table
  pub room : outs new ≤ left.spare
  pub none : (n : ℕ) → n < number → out_entry (entry_at new n) ≡ 0
  pub goes : (P : Network) (nodes : List Node) (opened granted : ℕ) →
      IsBody P (record { nodes = nodes; table = table; listing = listing; opened = opened; granted = granted }) (marked nodes table) → GoesOn P nodes new left opened (marked nodes table)

pub begun : (table : List (Option Entry)) (listing : Listing) → outs table ≤ listing.spare → Goes table listing table listing 0
begun table listing room = record {
  len = refl;
  room = room;
  none = λ n h. absurd (omega (arith, h));
  goes = λ P nodes opened granted body. record { given = granted; body = body; same = refl };
}

-- the entry at the number is not out
pub passed : (table : List (Option Entry)) (listing : Listing) (new : List (Option Entry)) (left : Listing) (number : ℕ) → Goes table listing new left number → out_entry (entry_at new number) ≡ 0 → Goes table listing new left (number + 1)
passed table listing new left number goes none = record {
  len = goes.len;
  room = goes.room;
  none = λ n h. elim (cases_eq n number) [ inl same ↦ subst (λ n. out_entry (entry_at new n) ≡ 0) (sym same) none | inr other ↦ goes.none n (omega (arith, h, other)) ];
  goes = goes.goes;
}

-- it is out, and freed
pub room_for : (new : List (Option Entry)) (left : Listing) (number : ℕ) (e : Entry) → outs new ≤ left.spare → entry_at new number ≡ Some e → e.mark ≢ held.Free → 0 < left.spare
room_for new left number e room is other =
    let out = some_out e.mark other in
    let one : out_entry (entry_at new number) ≡ 1 = ap out_entry is ∙ ap out_mark out.1.1 in
    omega (arith, one, room, out_counts new number (entry_there new number e is))

pub freed_one : (table : List (Option Entry)) (listing : Listing) (new : List (Option Entry)) (left : Listing) (number : ℕ) (e : Entry) (next : List (Option Entry)) (more : Listing) → BeforeOnceLaw → Goes table listing new left number →
    entry_at new number ≡ Some e → e.mark ≢ held.Free → next ≡ set new number (Some (record e { mark = held.Free })) →
    IsPermutation (record { floor = e.floor; leaf = number } ∷ left.leaves) more.leaves → left.spare ≤ more.spare + 1 → Goes table listing next more (number + 1)
freed_one table listing new left number e next more once goes is other next_is permuted room =
    let there = entry_there new number e is in
    let out = some_out e.mark other in
    let was : out_entry (entry_at new number) ≡ 1 = ap out_entry is ∙ ap out_mark out.1.1 in
    let own : entry_at next number ≡ Some (record e { mark = held.Free }) = ap (λ t. entry_at t number) next_is ∙ get_or-set_same new number _ None there in
    let count : outs next + out_entry (entry_at new number) ≡ outs new + 0 = ap (λ t. outs t + out_entry (entry_at new number)) next_is ∙ outs_set new number (Some (record e { mark = held.Free })) there in
    record {
      len = ap length next_is ∙ length-set new number (Some (record e { mark = held.Free })) ∙ goes.len;
      room = omega (arith, count, was, room, goes.room);
      none = λ n h. elim (cases_eq n number) [
        | inl same ↦ subst (λ n. out_entry (entry_at next n) ≡ 0) (sym same) (ap out_entry own)
        | inr less ↦ ap out_entry (ap (λ t. entry_at t n) next_is ∙ get_or-set_other new number n _ None less) ∙ goes.none n (omega (arith, h, less))
      ];
      goes = λ P nodes opened granted body.
          let on = goes.goes P nodes opened granted body in
          let h : Holding = record { network = P; tree = nodes; table = new; budget = 0; begun = 0; nodes = 0; rows = [] } in
          let f = freed h left more opened on.given number out.0 out.1.0 e next once on.body is out.1.1 permuted room next_is in
          record {
            given = on.given - out.1.0;
            body = f.body;
            same = recalled_same number out.0 out.1.0 f.path (marked nodes new) [] (marked nodes next) f.replaced ∙ on.same;
          };
    }

-- where none is out the tree is called back, and nothing is granted
pub ended : (table : List (Option Entry)) (listing : Listing) (new : List (Option Entry)) (left : Listing) (number : ℕ) → BeforeOnceLaw → Goes table listing new left number → length table ≤ number → AllFreed table listing new left
ended table listing new left number once goes far = record { len = goes.len; body = λ P nodes opened given body. all_back P nodes opened given body } where
  all_back : (P : Network) (nodes : List Node) (opened given : ℕ) →
      IsBody P (record { nodes = nodes; table = table; listing = listing; opened = opened; granted = given }) (marked nodes table) →
      IsBody P (record { nodes = nodes; table = new; listing = left; opened = opened; granted = 0 }) (recalled (marked nodes table))
  all_back P nodes opened given body =
      let on = goes.goes P nodes opened given body in
      let tree = marked nodes new in
      let none : (n worker grant : ℕ) (path : List Event) → IsLeaf tree [] n (Out worker grant) path → ⊥ = λ n worker grant path leaf.
      let node = leaf_node P nodes new tree once on.body.are n (Out worker grant) path leaf in
      let there = entry_there new n (entry node.node (Out worker grant) (floor P path)) node.is in
      let zero : out_entry (entry_at new n) ≡ 0 = goes.none n (omega (arith, there, goes.len, far)) in
      let one : out_entry (entry_at new n) ≡ 1 = ap out_entry node.is in omega (arith, zero, one) in
      let tree_is : tree ≡ recalled (marked nodes table) = sym (recalled_all tree [] none) ∙ on.same in
      let nothing : on.given ≡ 0 = on.body.granted ∙ ap granted tree_is ∙ recalled_granted (marked nodes table) in
      subst (λ g. IsBody P (record { nodes = nodes; table = new; listing = left; opened = opened; granted = g }) (recalled (marked nodes table))) nothing
      (subst (λ t. IsBody P (record { nodes = nodes; table = new; listing = left; opened = opened; granted = on.given }) t) tree_is on.body)

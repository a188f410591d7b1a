-- Leaves are set aside, in the order of their floors.
use Rattle.std.proofs.Common.{◌≡◌, ◌≢◌, ℕ, ◌+◌, ◌<◌, ◌≤◌, ◌⊎◌, inl, inr, List, [], ◌∷◌, ◌++◌, length, set, refl, sym, ap, ap₂, ◌∙◌, subst, arith, Option, Some, None, All, Contains, IsPermutation, Bool, true, false, append-nil, le_refl, Result, Ok, Err, OnOk, OnErr}
use Rattle.std.proofs.lemmas.Bool.{cases_eq}
use Rattle.std.proofs.lemmas.List.{length-set, get_or-set_same, get_or-set_other}
use Rattle.std.proofs.lemmas.List.Elements.{All-nil, All-cons, All-contains, All-head}
use Rattle.std.proofs.lemmas.List.Sorted.{All-permutation, sum_by-IsPermutation, length_permutation, IsPermutation-refl, IsPermutation-trans, IsPermutation-middle, IsPermutation-append_left, IsPermutation-append_right}
use Rattle.cfn_model.specs.declared.step.Event.{Event}
use Rattle.cfn_model.specs.declared.step.Event.TheVariants.{Took, Refused}
use Rattle.cfn_model.specs.Network.{Network}
use Rattle.cfn_model.specs.Steps.{after}
use Rattle.cfn_model.specs.Sums.{floor}
use Rattle.cfn_queue.specs.declared.list.OpenLeaf.{OpenLeaf}
use Rattle.cfn_queue.specs.Listing.{Listing}
use Rattle.cfn_proof.specs.declared.tree.Node.{Node}
use Rattle.cfn_proof.specs.Local.{BeforeOnceLaw}
use Rattle.cfn_machine.specs.Pool.{Mark, Free, Out, PoolTree, Leaf, Shut, Fork, IsLeaf, Replaced, mark_for, dealt}
use Rattle.cfn_leaves.specs.declared.entry.Mark.{Mark as HeldMark}
use Rattle.cfn_leaves.specs.declared.entry.Mark.TheVariants as held
use Rattle.cfn_leaves.specs.declared.entry.Entry.{Entry}
use Rattle.cfn_leaves.specs.Standing.{entry_at, entry, marked}
use Rattle.cfn_leaves.specs.Listed.{outs, out_entry, out_mark, free_entry, is_numbered, IsFreeIn, IsListed}
use Rattle.cfn_leaves.specs.Asides.{AllSetAside, SetsAside}
use Rattle.cfn_leaves.specs.Value.{Body, Holding, IsBody, pool_tree}
use Rattle.cfn_leaves.proofs.Trees.{marked_is, leaf_node, same_some}
use Rattle.cfn_leaves.proofs.Marks.{entry_there}
use Rattle.cfn_leaves.proofs.Lists.{free_listed, listed_less, outs_set, out_counts}
use Rattle.cfn_leaves.proofs.Bodies.{is_held, free_is, body_taken}
use Rattle.cfn_leaves.proofs.Recalled.{is_out}

-- the order of the list does not matter
listed_permuted : (table : List (Option Entry)) (leaves new : List OpenLeaf) → IsPermutation leaves new → IsListed table leaves → IsListed table new
listed_permuted table leaves new permuted listed = record {
  each = All-permutation (IsFreeIn table) leaves new permuted listed.each;
  once = λ n. sum_by-IsPermutation (is_numbered n) leaves new permuted ∙ listed.once n;
}

body_permuted : (P : Network) (b : Body) (tree : PoolTree) (listing : Listing) → IsPermutation b.listing.leaves listing.leaves → outs b.table ≤ listing.spare → IsBody P b tree → IsBody P (record b { listing = listing }) tree
body_permuted P b tree listing permuted room body =
    let long = length_permutation b.listing.leaves listing.leaves permuted in
    record {
      are = body.are;
      listed = listed_permuted b.table b.listing.leaves listing.leaves permuted body.listed;
      room = room;
      opened = body.opened;
      granted = body.granted;
      both = omega (arith, body.both, long);
      fits = body.fits;
      few = body.few;
    }

-- the tree with the others' leaves set aside stays where one of them is
dealt_same : (mine : ℕ → Bool) (n : ℕ) (path : List Event) (tree : PoolTree) (history : List Event) (new : PoolTree) → Replaced tree history n Free path (Leaf n (Out 0 0) []) new → dealt mine new ≡ dealt mine tree
dealt_same mine n path (Leaf number mark block) history new at = ap (dealt mine) at.3 ∙ ap₂ (λ k b. Leaf k (mark_for (mine k)) b) (sym at.0) (append-nil block)
dealt_same mine n path (Shut block) history new at = absurd at
dealt_same mine n path (Fork block d first second) history new (inl at) =
    ap (dealt mine) at.2 ∙ ap (λ t. Fork block d t (dealt mine second)) (dealt_same mine n path first (Took d ∷ after block history) at.0 at.1)
dealt_same mine n path (Fork block d first second) history new (inr at) =
    ap (dealt mine) at.2 ∙ ap (λ t. Fork block d (dealt mine first) t) (dealt_same mine n path second (Refused d ∷ after block history) at.0 at.1)

-- it is the tree where each leaf has its mark
dealt_all : (mine : ℕ → Bool) (tree : PoolTree) (history : List Event) → ((n : ℕ) (mark : Mark) (path : List Event) → IsLeaf tree history n mark path → mark ≡ mark_for (mine n)) → dealt mine tree ≡ tree
dealt_all mine (Leaf number mark block) history each = ap (λ m. Leaf number m block) (sym (each number mark (after block history) (refl, refl, refl)))
dealt_all mine (Shut block) history each = refl
dealt_all mine (Fork block d first second) history each =
    ap₂ (λ f s. Fork block d f s)
    (dealt_all mine first (Took d ∷ after block history) (λ n mark path at. each n mark path (inl at)))
    (dealt_all mine second (Refused d ∷ after block history) (λ n mark path at. each n mark path (inr at)))

-- an entry is free, or set aside
abbrev pub IsDealt : (ℕ → Bool) → ℕ → Entry → Type 0
IsDealt mine n e = (e.mark ≡ held.Free) ⊎ ((e.mark ≡ held.Out 0 0) × (mine n ≡ false))

abbrev pub IsOwn : (ℕ → Bool) → OpenLeaf → Type 0
IsOwn mine leaf = mine leaf.leaf ≡ true

-- what else is kept stands for a tree that is the same once the others' leaves are set aside; the list is in two
pub record GoesOn (mine : ℕ → Bool) (P : Network) (nodes : List Node) (table : List (Option Entry)) (own left : List OpenLeaf) (opened granted : ℕ) (tree : PoolTree) : Type 0 where
  pub body : IsBody P (record { nodes = nodes; table = table; listing = record { leaves = own ++ left; spare = outs table }; opened = opened; granted = granted }) (marked nodes table)
  pub same : dealt mine (marked nodes table) ≡ dealt mine tree

pub record Goes (mine : ℕ → Bool) (table : List (Option Entry)) (listing : Listing) (new : List (Option Entry)) (own left : Listing) : Type 0 where
  pub len : length new ≡ length table
  pub count : length own.leaves + (length left.leaves + outs new) ≡ length listing.leaves
  pub room : length listing.leaves ≤ length own.leaves + own.spare
  pub each : (n : ℕ) (e : Entry) → entry_at new n ≡ Some e → IsDealt mine n e
  pub owned : All (IsOwn mine) own.leaves
  pub listed : IsListed new (own.leaves ++ left.leaves)
  pub goes : (P : Network) (nodes : List Node) (opened granted : ℕ) →
      IsBody P (record { nodes = nodes; table = table; listing = listing; opened = opened; granted = granted }) (marked nodes table) → GoesOn mine P nodes new own.leaves left.leaves opened granted (marked nodes table)

pub begun : (mine : ℕ → Bool) (table : List (Option Entry)) (listing own : Listing) → IsListed table listing.leaves → outs table ≡ 0 → own.leaves ≡ [] → length listing.leaves ≤ own.spare → Goes mine table listing table own listing
begun mine table listing own listed none no_leaf room = record {
  len = refl;
  count = omega (arith, none, ap length no_leaf);
  room = omega (arith, room);
  each = λ n e is. inl (is_out e (let h = out_counts table n (entry_there table n e is) in let one = ap out_entry is in omega (arith, h, one, none)));
  owned = subst (All (IsOwn mine)) (sym no_leaf) (All-nil (IsOwn mine));
  listed = subst (λ o. IsListed table (o ++ listing.leaves)) (sym no_leaf) listed;
  goes = λ P nodes opened granted body. record {
    body = subst (λ o. IsBody P (record { nodes = nodes; table = table; listing = record { leaves = o ++ listing.leaves; spare = outs table }; opened = opened; granted = granted }) (marked nodes table)) (sym no_leaf)
        (body_permuted P _ (marked nodes table) (record { leaves = listing.leaves; spare = outs table }) (IsPermutation-refl listing.leaves) (le_refl (outs table)) body);
    same = refl;
  };
}

-- the next leaf of the list, at the front of both
to_front : (own left rest : List OpenLeaf) (leaf : OpenLeaf) → IsPermutation left (leaf ∷ rest) → IsPermutation (own ++ left) (leaf ∷ (own ++ rest))
to_front own left rest leaf popped = IsPermutation-trans _ _ _ (IsPermutation-append_right own left (leaf ∷ rest) popped) (IsPermutation-middle own leaf rest)

-- it is the part's own
pub kept_one : (mine : ℕ → Bool) (table : List (Option Entry)) (listing : Listing) (new : List (Option Entry)) (own left more rest : Listing) (leaf : OpenLeaf) → Goes mine table listing new own left →
    IsPermutation left.leaves (leaf ∷ rest.leaves) → mine leaf.leaf ≡ true → IsPermutation (leaf ∷ own.leaves) more.leaves → own.spare ≤ more.spare + 1 → Goes mine table listing new more rest
kept_one mine table listing new own left more rest leaf goes popped is put room =
    let long = length_permutation left.leaves (leaf ∷ rest.leaves) popped in
    let longer = length_permutation (leaf ∷ own.leaves) more.leaves put in
    let moved : IsPermutation (own.leaves ++ left.leaves) (more.leaves ++ rest.leaves) =
    IsPermutation-trans _ _ _ (to_front own.leaves left.leaves rest.leaves leaf popped) (IsPermutation-append_left rest.leaves (leaf ∷ own.leaves) more.leaves put) in
    record {
      len = goes.len;
      count = omega (arith, goes.count, long, longer);
      room = omega (arith, goes.room, longer, room);
      each = goes.each;
      owned = All-permutation (IsOwn mine) (leaf ∷ own.leaves) more.leaves put (All-cons (IsOwn mine) leaf own.leaves is goes.owned);
      listed = listed_permuted new (own.leaves ++ left.leaves) (more.leaves ++ rest.leaves) moved goes.listed;
      goes = λ P nodes opened granted body.
          let on = goes.goes P nodes opened granted body in
          record { body = body_permuted P _ (marked nodes new) (record { leaves = more.leaves ++ rest.leaves; spare = outs new }) moved (le_refl (outs new)) on.body; same = on.same };
    }

-- it is set aside
pub set_one : (mine : ℕ → Bool) (table : List (Option Entry)) (listing : Listing) (new : List (Option Entry)) (own left rest : Listing) (leaf : OpenLeaf) (next : List (Option Entry)) → BeforeOnceLaw → Goes mine table listing new own left →
    IsPermutation left.leaves (leaf ∷ rest.leaves) → mine leaf.leaf ≡ false → ((e : Entry) → entry_at new leaf.leaf ≡ Some e → next ≡ set new leaf.leaf (Some (record e { mark = held.Out 0 0 }))) → Goes mine table listing next own rest
set_one mine table listing new own left rest leaf next once goes popped is put =
    let n = leaf.leaf in
    let front = to_front own.leaves left.leaves rest.leaves leaf popped in
    let here = All-head (IsFreeIn new) leaf (own.leaves ++ rest.leaves) (All-permutation (IsFreeIn new) (own.leaves ++ left.leaves) (leaf ∷ (own.leaves ++ rest.leaves)) front goes.listed.each) in
    let e = here.entry in
    let at = here.is in
    let free = here.free in
    let there = entry_there new n e at in
    let aside : Option Entry = Some (record e { mark = held.Out 0 0 }) in
    let next_is = put e at in
    let long = length_permutation left.leaves (leaf ∷ rest.leaves) popped in
    let own_entry : entry_at next n ≡ aside = ap (λ t. entry_at t n) next_is ∙ get_or-set_same new n aside None there in
    let was : out_entry (entry_at new n) ≡ 0 = ap out_entry at ∙ ap out_mark free in
    let more : outs next + out_entry (entry_at new n) ≡ outs new + 1 = ap (λ t. outs t + out_entry (entry_at new n)) next_is ∙ outs_set new n aside there in
    record {
      len = ap length next_is ∙ length-set new n aside ∙ goes.len;
      count = omega (arith, goes.count, long, was, more);
      room = goes.room;
      listed = listed_less new next (own.leaves ++ left.leaves) (own.leaves ++ rest.leaves) leaf goes.listed front (λ m other. ap (λ t. entry_at t m) next_is ∙ get_or-set_other new n m aside None other) (ap free_entry own_entry);
      each = λ m f found. elim (cases_eq m n) [
        | inl same ↦
            let f_is : record e { mark = held.Out 0 0 } ≡ f = same_some (sym own_entry ∙ ap (entry_at next) (sym same) ∙ found) in
            inr (sym (ap (λ (x : Entry). x.mark) f_is), subst (λ k. mine k ≡ false) (sym same) is)
        | inr other ↦ goes.each m f (sym (get_or-set_other new n m aside None other) ∙ sym (ap (λ t. entry_at t m) next_is) ∙ found)
      ];
      owned = goes.owned;
      goes = λ P nodes opened granted body.
          let on = goes.goes P nodes opened granted body in
          let b : Body = record { nodes = nodes; table = new; listing = record { leaves = own.leaves ++ left.leaves; spare = outs new }; opened = opened; granted = granted } in
          let tree = marked nodes new in
          let h = is_held P b tree n e once on.body at in
          let mark = free_is h.mark (sym free ∙ h.mark_is) in
          let of_leaf : IsLeaf tree [] n Free h.path = subst (λ k. IsLeaf tree [] n k h.path) mark h.leaf in
          let l = body_taken P b tree leaf e h.path 0 0 (record { leaves = own.leaves ++ rest.leaves; spare = outs new + 1 }) once on.body of_leaf at free front refl in
          let new_tree : marked nodes next ≡ l.tree' = ap (marked nodes) next_is ∙ marked_is P nodes (set new n aside) l.tree' once l.body.are in
          let spare : outs new + 1 ≡ outs next = omega (arith, was, more) in
          let none : granted + 0 ≡ granted = omega arith in
          record {
            body = subst (λ t. IsBody P (record { nodes = nodes; table = next; listing = record { leaves = own.leaves ++ rest.leaves; spare = outs next }; opened = opened; granted = granted }) t) (sym new_tree)
                (subst (λ g. IsBody P (record { nodes = nodes; table = next; listing = record { leaves = own.leaves ++ rest.leaves; spare = outs next }; opened = opened; granted = g }) l.tree') none
                (subst (λ s. IsBody P (record { nodes = nodes; table = next; listing = record { leaves = own.leaves ++ rest.leaves; spare = s }; opened = opened; granted = granted + 0 }) l.tree') spare
                (subst (λ t. IsBody P (record { nodes = nodes; table = t; listing = record { leaves = own.leaves ++ rest.leaves; spare = outs new + 1 }; opened = opened; granted = granted + 0 }) l.tree') (sym next_is) l.body)));
            same = dealt_same mine n h.path tree [] (marked nodes next) (subst (Replaced tree [] n Free h.path (Leaf n (Out 0 0) [])) (sym new_tree) l.replaced) ∙ on.same;
          };
    }

-- where the list is empty all others' leaves are set aside
pub ended : (mine : ℕ → Bool) (table : List (Option Entry)) (listing : Listing) (new : List (Option Entry)) (own left : Listing) → BeforeOnceLaw → Goes mine table listing new own left → left.leaves ≡ [] → AllSetAside mine table listing new own
ended mine table listing new own left once goes none = record { len = goes.len; body = λ P nodes opened granted body. all_set P nodes opened granted body } where
  mark_by : (n : ℕ) (mark : Mark) (e : Entry) → e.mark ≡ (entry 0 mark 0).mark → IsDealt mine n e → ((e.mark ≡ held.Free) → mine n ≡ true) → mark ≡ mark_for (mine n)
  mark_by n Free e is (inl free) own_leaf = ap mark_for (sym (own_leaf free))
  mark_by n Free e is (inr other) own_leaf = absurd (let k : held.Free ≡ held.Out 0 0 = sym is ∙ other.0 in cc)
  mark_by n (Out worker grant) e is (inl free) own_leaf = absurd (let k : held.Free ≡ held.Out worker grant = sym free ∙ is in cc)
  mark_by n (Out worker grant) e is (inr other) own_leaf =
      let k : held.Out worker grant ≡ held.Out 0 0 = sym is ∙ other.0 in
      let same : Out worker grant ≡ Out 0 0 = cc in same ∙ ap mark_for (sym other.1)

  all_set : (P : Network) (nodes : List Node) (opened granted : ℕ) →
      IsBody P (record { nodes = nodes; table = table; listing = listing; opened = opened; granted = granted }) (marked nodes table) →
      IsBody P (record { nodes = nodes; table = new; listing = own; opened = opened; granted = granted }) (dealt mine (marked nodes table))
  all_set P nodes opened granted body =
      let on = goes.goes P nodes opened granted body in
      let tree = marked nodes new in
      let leaves_is : own.leaves ++ left.leaves ≡ own.leaves = ap (λ l. own.leaves ++ l) none ∙ append-nil own.leaves in
      let each : (n : ℕ) (mark : Mark) (path : List Event) → IsLeaf tree [] n mark path → mark ≡ mark_for (mine n) = λ n mark path leaf.
      let node = leaf_node P nodes new tree once on.body.are n mark path leaf in
      let e = entry node.node mark (floor P path) in
      mark_by n mark e refl (goes.each n e node.is) (λ free.
      let listed = free_listed new (own.leaves ++ left.leaves) n e on.body.listed node.is free in
      let there : Contains own.leaves listed.0 = subst (λ l. Contains l listed.0) leaves_is listed.1 in
      subst (λ k. mine k ≡ true) listed.2 (All-contains (IsOwn mine) own.leaves listed.0 goes.owned there)) in
      let tree_is : tree ≡ dealt mine (marked nodes table) = sym (dealt_all mine tree [] each) ∙ on.same in
      let room : outs new ≤ own.spare = omega (arith, goes.count, goes.room) in
      subst (λ t. IsBody P (record { nodes = nodes; table = new; listing = own; opened = opened; granted = granted }) t) tree_is
      (body_permuted P _ tree own (subst (IsPermutation (own.leaves ++ left.leaves)) leaves_is (IsPermutation-refl (own.leaves ++ left.leaves))) room on.body)

-- a part that has all leaves sets none aside, where none is out
pub none_aside : (P : Network) (b : Body) → BeforeOnceLaw → outs b.table ≡ 0 → IsBody P b (marked b.nodes b.table) → marked b.nodes b.table ≡ dealt (λ n. true) (marked b.nodes b.table)
none_aside P b once none body = sym (dealt_all (λ n. true) (marked b.nodes b.table) [] each) where
  mark_by : (mark : Mark) (e : Entry) → e.mark ≡ (entry 0 mark 0).mark → e.mark ≡ held.Free → mark ≡ Free
  mark_by Free e is free = refl
  mark_by (Out worker grant) e is free = absurd (let k : held.Free ≡ held.Out worker grant = sym free ∙ is in cc)

  each : (n : ℕ) (mark : Mark) (path : List Event) → IsLeaf (marked b.nodes b.table) [] n mark path → mark ≡ Free
  each n mark path leaf =
      let node = leaf_node P b.nodes b.table (marked b.nodes b.table) once body.are n mark path leaf in
      let e = entry node.node mark (floor P path) in
      let one = ap out_entry node.is in
      let few = out_counts b.table n (entry_there b.table n e node.is) in
      mark_by mark e refl (is_out e (omega (arith, one, few, none)))

-- what is kept after leaves were set aside, or were not for want of memory
pub kept_aside : {T E : Type 0} (mine : ℕ → Bool) (P : Network) (nodes : List Node) (opened granted : ℕ) (table new : List (Option Entry)) (listing left : Listing) (result : Result T E) → BeforeOnceLaw →
    IsBody P (record { nodes = nodes; table = table; listing = listing; opened = opened; granted = granted }) (marked nodes table) →
    OnOk result (AllSetAside mine table listing new left) → OnErr result (new ≡ table) → OnErr result (left ≡ listing) →
    IsBody P (record { nodes = nodes; table = new; listing = left; opened = opened; granted = granted }) (marked nodes new)
kept_aside mine P nodes opened granted table new listing left (Ok x) once body ok same_table same_list =
    let b = ok.body P nodes opened granted body in
    subst (IsBody P _) (sym (marked_is P nodes new (dealt mine (marked nodes table)) once b.are)) b
kept_aside mine P nodes opened granted table new listing left (Err e) once body ok same_table same_list =
    subst (λ l. IsBody P (record { nodes = nodes; table = new; listing = l; opened = opened; granted = granted }) (marked nodes new)) (sym same_list)
    (subst (λ t. IsBody P (record { nodes = nodes; table = t; listing = listing; opened = opened; granted = granted }) (marked nodes t)) (sym same_table) body)

pub aside_in : {T E : Type 0} (mine : ℕ → Bool) (h : Holding) (opened granted : ℕ) (new : List (Option Entry)) (listing left : Listing) (result : Result T E) → BeforeOnceLaw →
    IsBody h.network (record { nodes = h.tree; table = h.table; listing = listing; opened = opened; granted = granted }) (pool_tree h) →
    OnOk result (AllSetAside mine h.table listing new left) → OnOk result (SetsAside mine h (record h { table = new }))
aside_in mine h opened granted new listing left (Ok x) once body ok =
    let b = ok.body h.network h.tree opened granted body in
    record { same = refl; tree_is = marked_is h.network h.tree new (dealt mine (pool_tree h)) once b.are; len = ok.len }
aside_in mine h opened granted new listing left (Err e) once body ok = tt

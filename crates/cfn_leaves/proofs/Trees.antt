-- Leaves of the pool's tree by their nodes, and the tree where another takes the place of a leaf.
use Rattle.std.proofs.Common.{◌≡◌, ◌≢◌, ℕ, zero, suc, ◌+◌, ◌<◌, ◌≤◌, inl, inr, List, [], ◌∷◌, ◌++◌, length, get_or, refl, sym, ap, ap₂, ◌∙◌, subst, arith, Option, Some, None, Bool, true, false, if◌then◌else◌, ◌==◌, eq-eqb, eqb-true, append_assoc, length-append}
use Rattle.cfn_model.specs.declared.step.Step.{Step}
use Rattle.cfn_model.specs.declared.step.Decision.{Decision}
use Rattle.cfn_model.specs.declared.step.Event.{Event}
use Rattle.cfn_model.specs.declared.step.Event.TheVariants.{Did, Took, Refused}
use Rattle.cfn_model.specs.Network.{Network}
use Rattle.cfn_model.specs.Sums.{floor}
use Rattle.cfn_model.specs.Steps.{after}
use Rattle.cfn_proof.specs.declared.tree.NodeId.{NodeId}
use Rattle.cfn_proof.specs.declared.tree.End.{End}
use Rattle.cfn_proof.specs.declared.tree.End.TheVariants as ends
use Rattle.cfn_proof.specs.declared.tree.Node.{Node}
use Rattle.cfn_proof.specs.Nodes.{node_at, IsLinked, IsFree, Before, at_root, at_first, at_second}
use Rattle.cfn_proof.specs.Local.{BeforeOnceLaw}
use Rattle.cfn_machine.specs.Pool.{Mark, Free, Out, PoolTree, Leaf, Shut, Fork, IsLeaf, Replaced, behind, leaves_with}
use Rattle.cfn_machine.proofs.CallerLemmas.{leaf_counts, replaced_leaf}
use Rattle.cfn_leaves.specs.declared.entry.Entry.{Entry}
use Rattle.cfn_leaves.specs.Standing.{entry_at, held_mark, mark_of, entry, Stands, number_from, mark_in, with_marks, marked_at, marked, Are}
use Rattle.cfn_leaves.specs.Ways.{IsPathOf}

-- a path goes on from what stands before the tree
block_ends : (block : List Step) (history : List Event) → (more : List Event) × (after block history ≡ more ++ history)
block_ends [] history = ([], refl)
block_ends (step ∷ block) history =
    let rest = block_ends block (Did step ∷ history) in (rest.0 ++ Did step ∷ [], rest.1 ∙ sym (append_assoc rest.0 (Did step ∷ []) history))

leaf_ends : (tree : PoolTree) (history : List Event) (n : ℕ) (mark : Mark) (path : List Event) → IsLeaf tree history n mark path → (more : List Event) × (path ≡ more ++ history)
leaf_ends (Leaf number m block) history n mark path at = let own = block_ends block history in (own.0, at.2 ∙ own.1)
leaf_ends (Shut block) history n mark path at = absurd at
leaf_ends (Fork block d first second) history n mark path (inl at) =
    let own = block_ends block history in let below = leaf_ends first (Took d ∷ after block history) n mark path at in
    (below.0 ++ Took d ∷ own.0, below.1 ∙ ap (λ h. below.0 ++ Took d ∷ h) own.1 ∙ sym (append_assoc below.0 (Took d ∷ own.0) history))
leaf_ends (Fork block d first second) history n mark path (inr at) =
    let own = block_ends block history in let below = leaf_ends second (Refused d ∷ after block history) n mark path at in
    (below.0 ++ Refused d ∷ own.0, below.1 ∙ ap (λ h. below.0 ++ Refused d ∷ h) own.1 ∙ sym (append_assoc below.0 (Refused d ∷ own.0) history))

-- the sides of a split differ
last_read : (more rest : List Event) (e d : Event) → get_or (more ++ e ∷ rest) (length more) d ≡ e
last_read [] rest e d = refl
last_read (first ∷ more) rest e d = last_read more rest e d

sides_differ : (d : Decision) (one two rest : List Event) → one ++ Took d ∷ rest ≡ two ++ Refused d ∷ rest → ⊥
sides_differ d one two rest same =
    let lengths = ap length same in
    let len : length one ≡ length two = omega (arith, lengths, length-append one (Took d ∷ rest), length-append two (Refused d ∷ rest)) in
    let e : Took d ≡ Refused d = sym (last_read one rest (Took d) (Took d)) ∙ ap (λ p. get_or p (length one) (Took d)) same ∙ ap (λ k. get_or (two ++ Refused d ∷ rest) k (Took d)) len ∙ last_read two rest (Refused d) (Took d) in
    cc

pub one_leaf : (tree : PoolTree) (history : List Event) (n m : ℕ) (mark other : Mark) (path : List Event) → IsLeaf tree history n mark path → IsLeaf tree history m other path → n ≡ m
one_leaf (Leaf number k block) history n m mark other path at here = sym at.0 ∙ here.0
one_leaf (Shut block) history n m mark other path at here = absurd at
one_leaf (Fork block d first second) history n m mark other path (inl at) (inl here) = one_leaf first (Took d ∷ after block history) n m mark other path at here
one_leaf (Fork block d first second) history n m mark other path (inr at) (inr here) = one_leaf second (Refused d ∷ after block history) n m mark other path at here
one_leaf (Fork block d first second) history n m mark other path (inl at) (inr here) =
    let left = leaf_ends first (Took d ∷ after block history) n mark path at in let right = leaf_ends second (Refused d ∷ after block history) m other path here in
    absurd (sides_differ d left.0 right.0 (after block history) (sym left.1 ∙ right.1))
one_leaf (Fork block d first second) history n m mark other path (inr at) (inl here) =
    let left = leaf_ends first (Took d ∷ after block history) m other path here in let right = leaf_ends second (Refused d ∷ after block history) n mark path at in
    absurd (sides_differ d left.0 right.0 (after block history) (sym left.1 ∙ right.1))

-- a leaf has its node, and its entry
pub record HasNode (P : Network) (nodes : List Node) (table : List (Option Entry)) (n : ℕ) (mark : Mark) (path : List Event) : Type 0 where
  pub node : ℕ
  pub there : node < length nodes
  pub free : IsFree nodes node
  pub of : IsPathOf nodes node path
  pub is : entry_at table n ≡ Some (entry node mark (floor P path))

pub has_node : (P : Network) (nodes : List Node) (table : List (Option Entry)) (i : ℕ) (history : List Event) (tree : PoolTree) (n : ℕ) (mark : Mark) (path : List Event) →
    Stands P nodes table i history tree → Before nodes i history → IsLeaf tree history n mark path → HasNode P nodes table n mark path
has_node P nodes table i history (Leaf number m block) n mark path stands before at = record {
  node = i;
  there = stands.0;
  free = stands.2;
  of = record { above = history; before = before; is = at.2 ∙ ap (λ b. after b history) (sym stands.1) };
  is = ap (entry_at table) (sym at.0) ∙ stands.3 ∙ ap₂ (λ k p. Some (entry i k (floor P p))) at.1 (sym at.2);
}
has_node P nodes table i history (Shut block) n mark path stands before at = absurd at
has_node P nodes table i history (Fork block d first second) n mark path stands before (inl at) =
    let split = stands.2 in
    has_node P nodes table split.0.number (Took d ∷ after block history) first n mark path split.3
    (at_first i d split.0 split.1 history stands.0 split.2 before refl (ap (λ b. Took d ∷ after b history) (sym stands.1))) at
has_node P nodes table i history (Fork block d first second) n mark path stands before (inr at) =
    let split = stands.2 in
    has_node P nodes table split.1.number (Refused d ∷ after block history) second n mark path split.4
    (at_second i d split.0 split.1 history stands.0 split.2 before refl (ap (λ b. Refused d ∷ after b history) (sym stands.1))) at

pub same_some : {X : Type 0} {x y : X} → Some x ≡ Some y → x ≡ y
same_some h = cc

pub some_none : {X : Type 0} {x : X} {C : Type 0} → None ≡ Some x → C
some_none h = absurd (cc)

-- one entry stands at a node
module _ (P : Network) (nodes : List Node) (table : List (Option Entry)) (tree : PoolTree) (once : BeforeOnceLaw) (are : Are P nodes table tree) where
  pub leaf_node : (n : ℕ) (mark : Mark) (path : List Event) → IsLeaf tree [] n mark path → HasNode P nodes table n mark path
  leaf_node n mark path at = has_node P nodes table 0 [] tree n mark path are.stands (at_root refl refl) at

  pub apart : (n m : ℕ) (e f : Entry) → entry_at table n ≡ Some e → entry_at table m ≡ Some f → e.node.number ≡ f.node.number → n ≡ m
  apart n m e f is other same =
      let leaf = are.there n e is in
      let another = are.there m f other in
      let one = leaf_node n leaf.0 leaf.1.0 leaf.1.1 in
      let two = leaf_node m another.0 another.1.0 another.1.1 in
      let e_is : e ≡ entry one.node leaf.0 (floor P leaf.1.0) = same_some (sym is ∙ one.is) in
      let f_is : f ≡ entry two.node another.0 (floor P another.1.0) = same_some (sym other ∙ two.is) in
      let node : two.node ≡ one.node = sym (ap (λ (e : Entry). e.node.number) f_is) ∙ sym same ∙ ap (λ (e : Entry). e.node.number) e_is in
      let of : IsPathOf nodes one.node another.1.0 = subst (λ i. IsPathOf nodes i another.1.0) node two.of in
      let above = once nodes one.node one.of.above of.above are.linked one.of.before of.before in
      let path : another.1.0 ≡ leaf.1.0 = of.is ∙ ap (after (node_at nodes one.node).block) (sym above) ∙ sym one.of.is in
      one_leaf tree [] n m leaf.0 another.0 leaf.1.0 leaf.1.1 (subst (λ p. IsLeaf tree [] m another.0 p) path another.1.1)

-- the number that a node's entry has
number_by : (b : Bool) (base i : ℕ) (rest : List (Option Entry)) → b ≡ true → (if b then base else number_from (base + 1) i rest) ≡ base
number_by true base i rest h = refl
number_by false base i rest h = absurd (cc)

number_not : (b : Bool) (base i : ℕ) (rest : List (Option Entry)) → (b ≡ true → ⊥) → (if b then base else number_from (base + 1) i rest) ≡ number_from (base + 1) i rest
number_not true base i rest h = absurd (h refl)
number_not false base i rest h = refl

number_is : (table : List (Option Entry)) (base i n : ℕ) (e : Entry) → entry_at table n ≡ Some e → e.node.number ≡ i → ((m : ℕ) (f : Entry) → entry_at table m ≡ Some f → f.node.number ≡ i → m ≡ n) →
    number_from base i table ≡ base + n
number_is [] base i n e is node only = some_none is
number_is (None ∷ table) base i zero e is node only = some_none is
number_is (Some f ∷ table) base i zero e is node only =
    number_by (f.node.number == i) base i table (eq-eqb _ _ (ap (λ (e : Entry). e.node.number) (same_some is) ∙ node)) ∙ omega arith
number_is (None ∷ table) base i (suc n) e is node only = number_is table (base + 1) i n e is node (λ m f at here. (let s = only (suc m) f at here in omega (arith, s))) ∙ omega arith
number_is (Some f ∷ table) base i (suc n) e is node only =
    number_not (f.node.number == i) base i table (λ h. (let s = only 0 f refl (eqb-true _ _ h) in omega (arith, s)))
    ∙ number_is table (base + 1) i n e is node (λ m f at here. (let s = only (suc m) f at here in omega (arith, s))) ∙ omega arith

-- the tree that the nodes and the table are is the one that is read from them
pub mark_back : (mark : Mark) → mark_of (held_mark mark) ≡ mark
mark_back Free = refl
mark_back (Out worker grant) = refl

module _ (P : Network) (nodes : List Node) (table : List (Option Entry)) (linked : IsLinked nodes) (only : (n m : ℕ) (e f : Entry) → entry_at table n ≡ Some e → entry_at table m ≡ Some f → e.node.number ≡ f.node.number → n ≡ m) where
  marked_from : (tree : PoolTree) (history : List Event) (deep i : ℕ) → Stands P nodes table i history tree → length nodes ≤ i + deep → marked_at nodes table deep i ≡ tree
  marked_from (Leaf n mark block) history zero i stands far = absurd (omega (arith, stands.0, far))
  marked_from (Leaf n mark block) history (suc deep) i stands far =
      let number : number_from 0 i table ≡ n = number_is table 0 i n (entry i mark (floor P (after block history))) stands.3 refl (λ m f at here. only m n f (entry i mark (floor P (after block history))) at stands.3 here) ∙ omega arith in
      ap (λ e. with_marks table i (node_at nodes i).block e (marked_at nodes table deep)) stands.2
      ∙ ap (λ b. Leaf (number_from 0 i table) (mark_in (entry_at table (number_from 0 i table))) b) stands.1
      ∙ ap (λ k. Leaf k (mark_in (entry_at table k)) block) number
      ∙ ap (λ k. Leaf n k block) (ap mark_in stands.3 ∙ mark_back mark)
  marked_from (Shut block) history zero i stands far = absurd (omega (arith, stands.0, far))
  marked_from (Shut block) history (suc deep) i stands far = ap (λ e. with_marks table i (node_at nodes i).block e (marked_at nodes table deep)) stands.2 ∙ ap Shut stands.1
  marked_from (Fork block d first second) history zero i stands far = absurd (omega (arith, stands.0, far))
  marked_from (Fork block d first second) history (suc deep) i stands far =
      let split = stands.2 in
      let family = linked.children i d split.0 split.1 stands.0 split.2 in
      ap (λ e. with_marks table i (node_at nodes i).block e (marked_at nodes table deep)) split.2
      ∙ ap (λ b. Fork b d (marked_at nodes table deep split.0.number) (marked_at nodes table deep split.1.number)) stands.1
      ∙ ap₂ (λ f s. Fork block d f s)
      (marked_from first (Took d ∷ after block history) deep split.0.number split.3 (omega (arith, far, family.first_behind)))
      (marked_from second (Refused d ∷ after block history) deep split.1.number split.4 (omega (arith, far, family.second_behind)))

pub marked_is : (P : Network) (nodes : List Node) (table : List (Option Entry)) (tree : PoolTree) → BeforeOnceLaw → Are P nodes table tree → marked nodes table ≡ tree
marked_is P nodes table tree once are = marked_from P nodes table are.linked (apart P nodes table tree once are) tree [] (length nodes) 0 are.stands (omega arith)

-- the tree where another takes the place of a leaf: the nodes but the leaf's stay, and so do the entries but the leaf's
pub record Elsewhere (nodes new : List Node) (table more : List (Option Entry)) (i n : ℕ) : Type 0 where
  pub no_fewer : length nodes ≤ length new
  pub free : IsFree nodes i
  pub others : (j : ℕ) → j < length nodes → j ≢ i → node_at new j ≡ node_at nodes j
  pub entries : (m : ℕ) (e : Entry) → m ≢ n → entry_at table m ≡ Some e → entry_at more m ≡ Some e
  pub away : (m : ℕ) (e : Entry) → m ≢ n → entry_at table m ≡ Some e → e.node.number ≢ i

free_split : {d : Decision} {one two : NodeId} {e : End} {C : Type 0} → e ≡ ends.Free → e ≡ ends.Split d one two → C
free_split f s = absurd (cc)

free_shut : {e : End} {C : Type 0} → e ≡ ends.Free → e ≡ ends.Shut → C
free_shut f s = absurd (cc)

module _ (P : Network) (nodes new : List Node) (table more : List (Option Entry)) (i n : ℕ) (elsewhere : Elsewhere nodes new table more i n) where
  kept : (j : ℕ) (block : List Step) (e : End) → j < length nodes → j ≢ i → (node_at nodes j).block ≡ block → (node_at nodes j).end ≡ e → (j < length new) × ((node_at new j).block ≡ block) × ((node_at new j).end ≡ e)
  kept j block e there other block_is end_is =
      let same = elsewhere.others j there other in
      (omega (arith, there, elsewhere.no_fewer), ap (λ (x : Node). x.block) same ∙ block_is, ap (λ (x : Node). x.end) same ∙ end_is)

  -- a part of the tree that has not the leaf stays
  pub stays : (tree : PoolTree) (j : ℕ) (history : List Event) → Stands P nodes table j history tree → leaves_with n tree ≡ 0 → Stands P new more j history tree
  stays (Leaf m mark block) j history stands none =
      let other : m ≢ n = λ same. (let c = leaf_counts (Leaf m mark block) history n mark (after block history) (same, refl, refl) in omega (arith, c, none)) in
      let k = kept j block ends.Free stands.0 (elsewhere.away m (entry j mark (floor P (after block history))) other stands.3) stands.1 stands.2 in
      (k.0, k.1, k.2, elsewhere.entries m (entry j mark (floor P (after block history))) other stands.3)
  stays (Shut block) j history stands none =
      kept j block ends.Shut stands.0 (λ same. free_shut elsewhere.free (subst (λ j. (node_at nodes j).end ≡ ends.Shut) same stands.2)) stands.1 stands.2
  stays (Fork block d first second) j history stands none =
      let split = stands.2 in
      let k = kept j block (ends.Split d split.0 split.1) stands.0 (λ same. free_split elsewhere.free (subst (λ j. (node_at nodes j).end ≡ ends.Split d split.0 split.1) same split.2)) stands.1 split.2 in
      (k.0, k.1, (split.0, split.1, k.2, stays first split.0.number (Took d ∷ after block history) split.3 (omega (arith, none)), stays second split.1.number (Refused d ∷ after block history) split.4 (omega (arith, none))))

  pub takes_place : (mark : Mark) (path : List Event) (place : PoolTree) (e : Entry) → entry_at table n ≡ Some e → e.node.number ≡ i →
      ((history : List Event) → path ≡ after (node_at nodes i).block history → Stands P new more i history (behind (node_at nodes i).block place)) →
      (tree : PoolTree) (j : ℕ) (history : List Event) (after_it : PoolTree) → Stands P nodes table j history tree → leaves_with n tree ≤ 1 → Replaced tree history n mark path place after_it → Stands P new more j history after_it
  takes_place mark path place e is node here (Leaf m k block) j history after_it stands one at =
      let e_is : e ≡ entry j k (floor P (after block history)) = same_some (sym is ∙ ap (entry_at table) (sym at.0) ∙ stands.3) in
      let same : i ≡ j = sym node ∙ ap (λ (e : Entry). e.node.number) e_is in
      let block_is : (node_at nodes i).block ≡ block = ap (λ j. (node_at nodes j).block) same ∙ stands.1 in
      subst (Stands P new more j history) (sym at.3)
      (subst (λ b. Stands P new more j history (behind b place)) block_is
      (subst (λ j. Stands P new more j history (behind (node_at nodes i).block place)) same (here history (at.2 ∙ ap (λ b. after b history) (sym block_is)))))
  takes_place mark path place e is node here (Shut block) j history after_it stands one at = absurd at
  takes_place mark path place e is node here (Fork block d first second) j history after_it stands one (inl at) =
      let split = stands.2 in
      let k = kept j block (ends.Split d split.0 split.1) stands.0 (λ same. free_split elsewhere.free (subst (λ j. (node_at nodes j).end ≡ ends.Split d split.0 split.1) same split.2)) stands.1 split.2 in
      let there = leaf_counts first (Took d ∷ after block history) n mark path (replaced_leaf n mark path place first (Took d ∷ after block history) at.0 at.1) in
      subst (Stands P new more j history) (sym at.2) (
        k.0,
        k.1,
        (
          split.0,
          split.1,
          k.2,
          takes_place mark path place e is node here first split.0.number (Took d ∷ after block history) at.0 split.3 (omega (arith, one)) at.1,
          stays second split.1.number (Refused d ∷ after block history) split.4 (omega (arith, one, there)),
        ),
      )
  takes_place mark path place e is node here (Fork block d first second) j history after_it stands one (inr at) =
      let split = stands.2 in
      let k = kept j block (ends.Split d split.0 split.1) stands.0 (λ same. free_split elsewhere.free (subst (λ j. (node_at nodes j).end ≡ ends.Split d split.0 split.1) same split.2)) stands.1 split.2 in
      let there = leaf_counts second (Refused d ∷ after block history) n mark path (replaced_leaf n mark path place second (Refused d ∷ after block history) at.0 at.1) in
      subst (Stands P new more j history) (sym at.2) (
        k.0,
        k.1,
        (
          split.0,
          split.1,
          k.2,
          stays first split.0.number (Took d ∷ after block history) split.3 (omega (arith, one, there)),
          takes_place mark path place e is node here second split.1.number (Refused d ∷ after block history) at.0 split.4 (omega (arith, one)) at.1,
        ),
      )

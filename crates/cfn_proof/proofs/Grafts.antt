-- What the graft of a piece into an open leaf changes in a list of nodes.
use Rattle.std.proofs.Common.{◌≡◌, ◌≢◌, ℕ, zero, suc, ◌+◌, ◌-◌, ◌<◌, ◌≤◌, ◌^◌, ◌⊎◌, inl, inr, List, [], ◌∷◌, ◌++◌, length, get_or, set, map, drop, Option, Some, None, refl, sym, ap, ◌∙◌, subst, arith, eq-eqb}
use Rattle.std.proofs.lemmas.Bool.{cases_eq, cases_lt}
use Rattle.std.specs.Prelude.{true, ◌==◌, IsTrue}
use Rattle.std.specs.List.{AllByRecursion}
use Rattle.std.proofs.lemmas.List.{get_or_read, get_or_append_left, get_or-append_right, get_or-map, get_or-drop, get_or-set_same, get_or-set_other, length-set, length-append, length-map, length-drop}
use Rattle.cfn_model.specs.declared.step.Step.{Step}
use Rattle.cfn_model.specs.declared.step.Decision.{Decision}
use Rattle.cfn_model.specs.Text.{IsSpelledStep}
use Rattle.cfn_proof.specs.declared.tree.NodeId.{NodeId}
use Rattle.cfn_proof.specs.declared.tree.End.{End}
use Rattle.cfn_proof.specs.declared.tree.End.TheVariants.{Free, Shut, Split}
use Rattle.cfn_proof.specs.declared.tree.Node.{Node}
use Rattle.cfn_proof.specs.Nodes.{node_at, open_node, names_child, moved, moved_parent, moved_end, moved_node, graft_at, FitsBehind, FitsEnd, FitsParent, IsFamily, IsFree, IsLinked, IsSpelledEnd, IsTree}
use Rattle.cfn_proof.proofs.Growth.{Changed, not_free, or_true, past, parents_kept, family_kept, named_kept}
use Rattle.cfn_proof.proofs.Histories.{named}
use Rattle.cfn_proof.proofs.Packed.{all_append}

-- the order of a piece's nodes stays
moved_less : (i n p q : ℕ) → i < n → p < q → moved i n p < moved i n q
moved_less i n p zero h lt = absurd (omega arith)
moved_less i n zero (suc q) h lt = omega arith
moved_less i n (suc p) (suc q) h lt = omega arith

pub moved_apart : (i n p q : ℕ) → i < n → (p ≡ q → ⊥) → moved i n p ≡ moved i n q → ⊥
moved_apart i n p q h other same =
    elim (cases_lt p q) [
      | inl less ↦ omega (arith, moved_less i n p q h less)
      | inr far ↦ elim (cases_lt q p) [ inl less ↦ omega (arith, moved_less i n q p h less) | inr near ↦ other (omega arith) ]
    ]

-- a node that isn't the root stands behind the tree's nodes
pub moved_behind : (i n p : ℕ) → 0 < p → n ≤ moved i n p
moved_behind i n zero h = absurd (omega arith)
moved_behind i n (suc p) h = omega arith

pub moved_there : (i n p m len : ℕ) → 0 < p → p < m → len + 1 ≡ n + m → moved i n p < len
moved_there i n zero m len some h e = absurd (omega arith)
moved_there i n (suc p) m len some h e = omega arith

-- what is moved to a split was one
unmoved_end : (i n : ℕ) (e : End) (d : Decision) (first second : NodeId) → moved_end i n e ≡ Split d first second → (one : NodeId) × (two : NodeId) × (e ≡ Split d one two) × (first.number ≡ moved i n one.number) × (second.number ≡ moved i n two.number)
unmoved_end i n Free d first second is = absurd (let k : Free ≡ Split d first second = is in cc)
unmoved_end i n Shut d first second is = absurd (let k : Shut ≡ Split d first second = is in cc)
unmoved_end i n (Split c one two) d first second is =
    let k : Split c (record { number = moved i n one.number }) (record { number = moved i n two.number }) ≡ Split d first second = is in
    let e : c ≡ d = cc in
    (one, two, ap (λ c. Split c one two) e, (cc), (cc))

unmoved_parent : (i n : ℕ) (o : Option NodeId) (parent : NodeId) → moved_parent i n o ≡ Some parent → (up : NodeId) × (o ≡ Some up) × (parent.number ≡ moved i n up.number)
unmoved_parent i n None parent is = absurd (let k : None ≡ Some parent = is in cc)
unmoved_parent i n (Some up) parent is = let k : Some (record { number = moved i n up.number }) ≡ Some parent = is in (up, refl, (cc))

unmoved_none : (i n : ℕ) (o : Option NodeId) → moved_parent i n o ≡ None → o ≡ None
unmoved_none i n None is = refl
unmoved_none i n (Some up) is = absurd (let k : Some (record { number = moved i n up.number }) ≡ None = is in cc)

-- an end names its children
names : (i n : ℕ) (e : End) (d : Decision) (one two : NodeId) (m : ℕ) → e ≡ Split d one two → (one.number ≡ m) ⊎ (two.number ≡ m) → IsTrue (names_child (moved_end i n e) (moved i n m))
names i n e d one two m is (inl left) =
    let t : (moved i n one.number == moved i n m) ≡ true = eq-eqb _ _ (ap (moved i n) left) in
    subst (λ e. IsTrue (names_child (moved_end i n e) (moved i n m))) (sym is) (rw t refl)
names i n e d one two m is (inr right) =
    let t : (moved i n two.number == moved i n m) ≡ true = eq-eqb _ _ (ap (moved i n) right) in
    subst (λ e. IsTrue (names_child (moved_end i n e) (moved i n m))) (sym is) (rw t (or_true (moved i n one.number == moved i n m)))

-- the nodes after a graft
module _ (nodes : List Node) (i : ℕ) (piece : List Node) (there : i < length nodes) (some : 0 < length piece) where
  kept : List Node
  kept = set nodes i (record (node_at nodes i) { block = (node_at nodes i).block ++ (node_at piece 0).block; end = moved_end i (length nodes) (node_at piece 0).end })

  length-kept : length kept ≡ length nodes
  unfolding kept
  length-kept = length-set nodes i _

  pub length-graft_at : length (graft_at nodes i piece) + 1 ≡ length nodes + length piece
  unfolding kept
  length-graft_at = omega (arith, length-append kept (map (moved_node i (length nodes)) (drop 1 piece)), length-kept, length-map (drop 1 piece) (moved_node i (length nodes)), length-drop 1 piece)

  pub graft_at-same : node_at (graft_at nodes i piece) i ≡ record (node_at nodes i) { block = (node_at nodes i).block ++ (node_at piece 0).block; end = moved_end i (length nodes) (node_at piece 0).end }
  unfolding kept
  graft_at-same = get_or_append_left kept _ _ i (omega (arith, length-kept)) ∙ get_or-set_same nodes i _ _ there

  pub graft_at-other : (j : ℕ) → j < length nodes → j ≢ i → node_at (graft_at nodes i piece) j ≡ node_at nodes j
  unfolding kept
  graft_at-other j h other = get_or_append_left kept _ _ j (omega (arith, length-kept)) ∙ get_or-set_other nodes i j _ _ other

  pub graft_at-moved : (m : ℕ) → suc m < length piece → node_at (graft_at nodes i piece) (length nodes + m) ≡ moved_node i (length nodes) (node_at piece (suc m))
  unfolding kept
  graft_at-moved m h =
      let e : length nodes + m - length nodes ≡ m = omega arith in
      get_or-append_right kept _ (length nodes) (length nodes + m) _ length-kept (omega arith)
      ∙ ap (λ k. node_at (map (moved_node i (length nodes)) (drop 1 piece)) k) e
      ∙ get_or-map (moved_node i (length nodes)) (drop 1 piece) m (open_node None) (open_node None) (omega (arith, length-drop 1 piece))
      ∙ ap (moved_node i (length nodes)) (get_or-drop 1 piece m (open_node None))
      ∙ ap (λ k. moved_node i (length nodes) (node_at piece k)) (let k : 1 + m ≡ suc m = omega arith in k)

  -- each node of the piece names what it named
  pub end_moved : (p : ℕ) → p < length piece → (node_at (graft_at nodes i piece) (moved i (length nodes) p)).end ≡ moved_end i (length nodes) (node_at piece p).end
  end_moved zero h = ap (λ (n : Node). n.end) graft_at-same
  end_moved (suc m) h = ap (λ (n : Node). n.end) (graft_at-moved m h)

  pub parent_moved : (p : ℕ) → 0 < p → p < length piece → (node_at (graft_at nodes i piece) (moved i (length nodes) p)).parent ≡ moved_parent i (length nodes) (node_at piece p).parent
  parent_moved zero behind h = absurd (omega arith)
  parent_moved (suc m) behind h = ap (λ (n : Node). n.parent) (graft_at-moved m h)

  family_moved : IsLinked piece → (p : ℕ) (d : Decision) (one two : NodeId) → p < length piece → (node_at piece p).end ≡ Split d one two → IsFamily (graft_at nodes i piece) (moved i (length nodes) p) (moved i (length nodes) one.number) (moved i (length nodes) two.number)
  family_moved linked p d one two h is =
      let family = linked.children p d one two h is in
      let n = length nodes in
      record {
        first_behind = moved_less i n p one.number there family.first_behind;
        first_there = moved_there i n one.number (length piece) (length (graft_at nodes i piece)) (omega (arith, family.first_behind)) family.first_there length-graft_at;
        second_behind = moved_less i n p two.number there family.second_behind;
        second_there = moved_there i n two.number (length piece) (length (graft_at nodes i piece)) (omega (arith, family.second_behind)) family.second_there length-graft_at;
        different = moved_apart i n one.number two.number there family.different;
        first_knows = parent_moved one.number (omega (arith, family.first_behind)) family.first_there ∙ ap (moved_parent i n) family.first_knows;
        second_knows = parent_moved two.number (omega (arith, family.second_behind)) family.second_there ∙ ap (moved_parent i n) family.second_knows;
      }

  -- a split among the piece's nodes was one in the piece
  pub record WasSplit (p : ℕ) (d : Decision) (first second : NodeId) : Type 0 where
    pub one : NodeId
    pub two : NodeId
    pub is : (node_at piece p).end ≡ Split d one two
    pub first_is : first.number ≡ moved i (length nodes) one.number
    pub second_is : second.number ≡ moved i (length nodes) two.number

  pub was_split : (p : ℕ) (d : Decision) (first second : NodeId) → p < length piece → (node_at (graft_at nodes i piece) (moved i (length nodes) p)).end ≡ Split d first second → WasSplit p d first second
  was_split p d first second h is =
      let u = unmoved_end i (length nodes) (node_at piece p).end d first second (sym (end_moved p h) ∙ is) in
      record { one = u.0; two = u.1; is = u.2; first_is = u.3; second_is = u.4 }

  -- the number in the piece of a node that was not there
  pub late_is : (j : ℕ) → length nodes ≤ j → j ≡ moved i (length nodes) (suc (j - length nodes))
  late_is j late = omega arith

  pub late_there : (j : ℕ) → length nodes ≤ j → j < length (graft_at nodes i piece) → suc (j - length nodes) < length piece
  late_there j late h = omega (arith, length-graft_at)

  moved_family : IsLinked piece → (p : ℕ) (d : Decision) (first second : NodeId) → p < length piece → (node_at (graft_at nodes i piece) (moved i (length nodes) p)).end ≡ Split d first second → IsFamily (graft_at nodes i piece) (moved i (length nodes) p) first.number second.number
  moved_family linked p d first second h is =
      let was = was_split p d first second h is in
      subst (λ f. IsFamily (graft_at nodes i piece) (moved i (length nodes) p) f second.number) (sym was.first_is)
      (subst (λ s. IsFamily (graft_at nodes i piece) (moved i (length nodes) p) (moved i (length nodes) was.one.number) s) (sym was.second_is) (family_moved linked p d was.one was.two h was.is))

  -- a child in the piece has its parent there
  moved_named : IsLinked piece → (p : ℕ) (parent : NodeId) → 0 < p → p < length piece → (node_at (graft_at nodes i piece) (moved i (length nodes) p)).parent ≡ Some parent → (parent.number < moved i (length nodes) p) × IsTrue (names_child (node_at (graft_at nodes i piece) parent.number).end (moved i (length nodes) p))
  moved_named linked p parent behind h is =
      let u = unmoved_parent i (length nodes) (node_at piece p).parent parent (sym (parent_moved p behind h) ∙ is) in
      let up = linked.parents p u.0 h u.1 in
      let n = named (node_at piece u.0.number).end p up.1 in
      let says = names i (length nodes) (node_at piece u.0.number).end n.0 n.1 n.2 p n.3 n.4 in
      let above : u.0.number < length piece = omega (arith, up.0) in
      subst (λ q. (q < moved i (length nodes) p) × IsTrue (names_child (node_at (graft_at nodes i piece) q).end (moved i (length nodes) p))) (sym u.2)
      (moved_less i (length nodes) u.0.number p there up.0, subst (λ e. IsTrue (names_child e (moved i (length nodes) p))) (sym (end_moved u.0.number above)) says)

pub changed_by_graft : (nodes : List Node) (i : ℕ) (piece : List Node) → IsLinked piece → i < length nodes → IsFree nodes i → Changed nodes (graft_at nodes i piece) i
changed_by_graft nodes i piece linked there free =
    let n = length nodes in
    let new = graft_at nodes i piece in
    let len = length-graft_at nodes i piece there linked.some in
    let behind : (p : ℕ) (d : Decision) (first second : NodeId) → p < length piece → (node_at new (moved i n p)).end ≡ Split d first second → (n ≤ first.number) × (n ≤ second.number) =
    λ p d first second h is.
    let was = was_split nodes i piece there linked.some p d first second h is in
    let family = linked.children p d was.one was.two h was.is in
    (omega (arith, was.first_is, moved_behind i n was.one.number (omega (arith, family.first_behind))), omega (arith, was.second_is, moved_behind i n was.two.number (omega (arith, family.second_behind)))) in
    record {
      there = there;
      free = free;
      no_fewer = omega (arith, len, linked.some);
      others = λ j h other. graft_at-other nodes i piece there linked.some j h other;
      children_fresh = λ d first second is. behind 0 d first second linked.some is;
      late_children = λ j d first second late is. elim (cases_lt j (length new)) [
        | inl within ↦ behind (suc (j - n)) d first second (late_there nodes i piece there linked.some j late within) (subst (λ m. (node_at new m).end ≡ Split d first second) (late_is nodes i piece there linked.some j late) is)
        | inr far ↦ absurd (not_free (past new j far) is)
      ];
    }

pub linked_by_graft : (nodes : List Node) (i : ℕ) (piece : List Node) → IsLinked nodes → IsLinked piece → i < length nodes → IsFree nodes i → length nodes + length piece ≤ 2 ^ 32 + 1 → IsLinked (graft_at nodes i piece)
linked_by_graft nodes i piece linked inner there free room =
    let n = length nodes in
    let new = graft_at nodes i piece in
    let some = inner.some in
    let len = length-graft_at nodes i piece there some in
    let changed = changed_by_graft nodes i piece inner there free in
    let kept : (node_at new i).parent ≡ (node_at nodes i).parent = ap (λ (n : Node). n.parent) (graft_at-same nodes i piece there some) in
    record {
      some = omega (arith, len, linked.some, some);
      few = omega (arith, len, room);
      root = parents_kept nodes new i linked changed kept 0 linked.some ∙ linked.root;
      only_root = λ j h none. elim (cases_lt j n) [
        | inl old ↦ linked.only_root j old (sym (parents_kept nodes new i linked changed kept j old) ∙ none)
        | inr late ↦
            (let within = late_there nodes i piece there some j late h in
            let none' = subst (λ m. (node_at new m).parent ≡ None) (late_is nodes i piece there some j late) none in
            let e = inner.only_root (suc (j - n)) within (unmoved_none i n (node_at piece (suc (j - n))).parent (sym (parent_moved nodes i piece there some (suc (j - n)) (omega arith) within) ∙ none')) in
            omega (arith, e))
      ];
      children = λ j d first second h is. elim (cases_eq j i) [
        | inl at_leaf ↦ subst (λ m. IsFamily new m first.number second.number) (sym at_leaf) (moved_family nodes i piece there some inner 0 d first second some (subst (λ m. (node_at new m).end ≡ Split d first second) at_leaf is))
        | inr other ↦ elim (cases_lt j n) [
          | inl old ↦ family_kept nodes new i linked changed kept j d first second old other is
          | inr late ↦
              (let e = late_is nodes i piece there some j late in
              subst (λ m. IsFamily new m first.number second.number) (sym e) (moved_family nodes i piece there some inner (suc (j - n)) d first second (late_there nodes i piece there some j late h) (subst (λ m. (node_at new m).end ≡ Split d first second) e is)))
        ]
      ];
      parents = λ j parent h is. elim (cases_lt j n) [
        | inl old ↦ named_kept nodes new i linked changed kept j parent old is
        | inr late ↦
            (let e = late_is nodes i piece there some j late in
            subst (λ m. (parent.number < m) × IsTrue (names_child (node_at new parent.number).end m)) (sym e) (moved_named nodes i piece there some inner (suc (j - n)) parent (omega arith) (late_there nodes i piece there some j late h) (subst (λ m. (node_at new m).parent ≡ Some parent) e is)))
      ];
    }

-- a graft of spelled nodes is spelled
spelled_moved : (i n : ℕ) (e : End) → IsSpelledEnd e → IsSpelledEnd (moved_end i n e)
spelled_moved i n Free h = tt
spelled_moved i n Shut h = tt
spelled_moved i n (Split d first second) h = h

-- a fact on each node after a graft, from the nodes of both
pub each_grafted : (Has : Node → Type 0) (nodes : List Node) (i : ℕ) (piece : List Node) → i < length nodes → 0 < length piece → ((j : ℕ) → j < length nodes → Has (node_at nodes j)) → Has (node_at (graft_at nodes i piece) i) → ((m : ℕ) → suc m < length piece → Has (moved_node i (length nodes) (node_at piece (suc m)))) → (j : ℕ) → j < length (graft_at nodes i piece) → Has (node_at (graft_at nodes i piece) j)
each_grafted Has nodes i piece there some old same late j h =
    elim (cases_eq j i) [
      | inl at_leaf ↦ subst (λ m. Has (node_at (graft_at nodes i piece) m)) (sym at_leaf) same
      | inr other ↦ elim (cases_lt j (length nodes)) [
        | inl before ↦ subst Has (sym (graft_at-other nodes i piece there some j before other)) (old j before)
        | inr behind ↦
            (let within = late_there nodes i piece there some j behind h in
            subst (λ m. Has (node_at (graft_at nodes i piece) m)) (sym (late_is nodes i piece there some j behind)) (subst Has (sym (graft_at-moved nodes i piece there some (j - length nodes) within)) (late (j - length nodes) within)))
      ]
    ]

pub tree_by_graft : (nodes : List Node) (i : ℕ) (piece : List Node) → IsTree nodes → IsTree piece → i < length nodes → IsFree nodes i → length nodes + length piece ≤ 2 ^ 32 + 1 → IsTree (graft_at nodes i piece)
tree_by_graft nodes i piece tree inner there free room =
    let some = inner.linked.some in
    let same = graft_at-same nodes i piece there some in
    record {
      linked = linked_by_graft nodes i piece tree.linked inner.linked there free room;
      blocks = each_grafted (λ n. AllByRecursion IsSpelledStep n.block) nodes i piece there some tree.blocks
          (subst (λ (n : Node). AllByRecursion IsSpelledStep n.block) (sym same) (all_append IsSpelledStep (node_at nodes i).block (node_at piece 0).block (tree.blocks i there) (inner.blocks 0 some)))
          (λ m h. inner.blocks (suc m) h);
      ends = each_grafted (λ n. IsSpelledEnd n.end) nodes i piece there some tree.ends
          (subst (λ (n : Node). IsSpelledEnd n.end) (sym same) (spelled_moved i (length nodes) (node_at piece 0).end (inner.ends 0 some)))
          (λ m h. spelled_moved i (length nodes) (node_at piece (suc m)).end (inner.ends (suc m) h));
    }

-- the numbers that a piece's nodes name stay in range
fits_end : (n : ℕ) (piece : List Node) (p : ℕ) (e : End) → IsLinked piece → p < length piece → (node_at piece p).end ≡ e → n + length piece ≤ 2 ^ 32 + 1 → FitsEnd n e
fits_end n piece p Free linked h is room = tt
fits_end n piece p Shut linked h is room = tt
fits_end n piece p (Split d first second) linked h is room = let family = linked.children p d first second h is in (omega (arith, family.first_there, room), omega (arith, family.second_there, room))

fits_parent : (n : ℕ) (piece : List Node) (p : ℕ) (o : Option NodeId) → IsLinked piece → p < length piece → (node_at piece p).parent ≡ o → n + length piece ≤ 2 ^ 32 + 1 → FitsParent n o
fits_parent n piece p None linked h is room = tt
fits_parent n piece p (Some parent) linked h is room = let up = linked.parents p parent h is in omega (arith, up.0, room)

fits : (n : ℕ) (piece : List Node) (p : ℕ) → IsLinked piece → p < length piece → n + length piece ≤ 2 ^ 32 + 1 → FitsBehind n (node_at piece p)
fits n piece p linked h room = (fits_parent n piece p (node_at piece p).parent linked h refl room, fits_end n piece p (node_at piece p).end linked h refl room)

all_at : (Has : Node → Type 0) (nodes : List Node) → ((m : ℕ) → m < length nodes → Has (node_at nodes m)) → AllByRecursion Has nodes
all_at Has [] each = tt
all_at Has (node ∷ nodes) each = (each 0 (omega arith), all_at Has nodes (λ m h. each (suc m) (omega arith)))

pub all_fit : (n : ℕ) (piece : List Node) (read : Node) (block : List Step) → IsLinked piece → read ≡ get_or piece 0 read → n + length piece ≤ 2 ^ 32 + 1 → AllByRecursion (FitsBehind n) (set piece 0 (record { parent = read.parent; block = block; end = read.end }))
all_fit n piece read block linked value room =
    let root : read ≡ node_at piece 0 = get_or_read piece 0 read linked.some value (open_node None) in
    let new = set piece 0 (record { parent = read.parent; block = block; end = read.end }) in
    all_at (FitsBehind n) new (λ m h.
    let within : m < length piece = omega (arith, length-set piece 0 (record { parent = read.parent; block = block; end = read.end })) in
    elim (cases_eq m 0) [
      | inl is_root ↦ subst (λ m. FitsBehind n (node_at new m)) (sym is_root) (subst (FitsBehind n) (sym (get_or-set_same piece 0 _ _ linked.some)) (subst (FitsBehind n) (sym root) (fits n piece 0 linked linked.some room)))
      | inr other ↦ subst (FitsBehind n) (sym (get_or-set_other piece 0 m _ _ other)) (fits n piece m linked within room)
    ])

-- what the code leaves is the graft
after_put : (nodes : List Node) (i : ℕ) (piece : List Node) (n : ℕ) → List Node
after_put nodes i piece n = set nodes i (record (node_at nodes i) { block = (node_at piece 0).block; end = moved_end i n (node_at piece 0).end }) ++ map (moved_node i n) (drop 1 piece)

joined : (nodes : List Node) (i : ℕ) (piece : List Node) → 0 < length piece → after_put nodes i (set piece 0 (record (node_at piece 0) { block = (node_at nodes i).block ++ (node_at piece 0).block })) (length nodes) ≡ graft_at nodes i piece
unfolding after_put
joined nodes i [] some = absurd (omega arith)
joined nodes i (root ∷ others) some = refl

pub graft_is : (reserved now pieces piece new : List Node) (i n : ℕ) (own read : Node) (block : List Step) → reserved ≡ now → n ≡ length now → i < length now → own ≡ get_or reserved i own → pieces ≡ piece → 0 < length piece → read ≡ get_or pieces 0 read → block ≡ own.block ++ read.block → new ≡ set reserved i (record (node_at reserved i) { block = (node_at (set pieces 0 (record { parent = read.parent; block = block; end = read.end })) 0).block; end = moved_end i n (node_at (set pieces 0 (record { parent = read.parent; block = block; end = read.end })) 0).end }) ++ map (moved_node i n) (drop 1 (set pieces 0 (record { parent = read.parent; block = block; end = read.end }))) → new ≡ graft_at now i piece
unfolding after_put
graft_is reserved now pieces piece new i n own read block same count there own_is same_piece some read_is block_is is =
    let own' : own ≡ node_at now i = get_or_read reserved i own (omega (arith, ap length same)) own_is (open_node None) ∙ ap (λ l. node_at l i) same in
    let read' : read ≡ node_at piece 0 = get_or_read pieces 0 read (omega (arith, ap length same_piece)) read_is (open_node None) ∙ ap (λ l. node_at l 0) same_piece in
    let put : List Node → Node → List Step → List Node = λ l r b. set l 0 (record { parent = r.parent; block = b; end = r.end }) in
    is
    ∙ ap (λ l. after_put l i (put pieces read block) n) same
    ∙ ap (λ m. after_put now i (put pieces read block) m) count
    ∙ ap (λ b. after_put now i (put pieces read b) (length now)) block_is
    ∙ ap (λ (o : Node). after_put now i (put pieces read (o.block ++ read.block)) (length now)) own'
    ∙ ap (λ (r : Node). after_put now i (put pieces r ((node_at now i).block ++ r.block)) (length now)) read'
    ∙ ap (λ l. after_put now i (put l (node_at piece 0) ((node_at now i).block ++ (node_at piece 0).block)) (length now)) same_piece
    ∙ joined now i piece some

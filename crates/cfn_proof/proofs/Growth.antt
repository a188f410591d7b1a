-- What a split or a closing of an open leaf changes in a list of nodes.
use Rattle.std.proofs.Common.{◌≡◌, ◌≢◌, ℕ, zero, suc, ◌+◌, ◌-◌, ◌<◌, ◌≤◌, ◌^◌, ◌⊎◌, inl, inr, List, [], ◌∷◌, length, set, Some, None, refl, sym, ap, ◌∙◌, subst, arith}
use Rattle.std.proofs.lemmas.Bool.{cases_eq, cases_lt}
use Rattle.std.specs.Prelude.{Bool, true, false, ◌||◌, ◌==◌, IsTrue}
use Rattle.std.proofs.Common.{eq-eqb}
use Rattle.std.proofs.lemmas.List.{get_or_append_left, get_or-append_right, get_or-set_same, get_or-set_other, length-set, length-append}
use Rattle.cfn_model.specs.declared.step.Step.{Step}
use Rattle.cfn_model.specs.declared.step.Decision.{Decision}
use Rattle.cfn_model.specs.declared.step.Event.{Event}
use Rattle.cfn_model.specs.declared.step.Event.TheVariants.{Took, Refused}
use Rattle.cfn_model.specs.Steps.{after}
use Rattle.cfn_proof.specs.declared.tree.NodeId.{NodeId}
use Rattle.cfn_proof.specs.declared.tree.End.{End}
use Rattle.cfn_proof.specs.declared.tree.End.TheVariants.{Free, Shut, Split}
use Rattle.cfn_proof.specs.declared.tree.Node.{Node}
use Rattle.cfn_proof.specs.Nodes.{node_at, names_child, open_node, IsLinked, IsFamily, IsFree, Before, at_root, at_first, at_second, split_at, split_behind_at, split_end, close_at, leave_at}

-- only the node i, an open leaf, has changed, and no node behind those that were there is a parent of one of them
pub record Changed (nodes new : List Node) (i : ℕ) : Type 0 where
  pub there : i < length nodes
  pub free : IsFree nodes i
  pub no_fewer : length nodes ≤ length new
  pub others : (j : ℕ) → j < length nodes → j ≢ i → node_at new j ≡ node_at nodes j
  pub children_fresh : (d : Decision) (first second : NodeId) → (node_at new i).end ≡ Split d first second → (length nodes ≤ first.number) × (length nodes ≤ second.number)
  pub late_children : (j : ℕ) (d : Decision) (first second : NodeId) → length nodes ≤ j → (node_at new j).end ≡ Split d first second → (length nodes ≤ first.number) × (length nodes ≤ second.number)

-- open leaves stand behind the nodes that were there
abbrev pub Fresh : List Node → List Node → Type 0
Fresh nodes new = (j : ℕ) → length nodes ≤ j → (node_at new j).end ≡ Free

-- an end is of one kind
pub not_free : {d : Decision} {first second : NodeId} {e : End} → e ≡ Free → e ≡ Split d first second → ⊥
not_free h k = cc

-- what stands before a node that was there is what stood before it
pub before_old : (nodes new : List Node) (i j : ℕ) (history : List Event) → IsLinked nodes → Changed nodes new i → Before new j history → j < length nodes → Before nodes j history
before_old nodes new i j history linked changed (at_root is_root is_empty) there = at_root is_root is_empty
before_old nodes new i j history linked changed (at_first parent d first second above within is before is_child is_history) there =
    elim (cases_eq parent i) [
      | inl same ↦ absurd (let c = changed.children_fresh d first second (subst (λ p. (node_at new p).end ≡ Split d first second) same is) in omega (arith, c.0))
      | inr other ↦ elim (cases_lt parent (length nodes)) [
        | inl old ↦
            let e : node_at new parent ≡ node_at nodes parent = changed.others parent old other in
            at_first parent d first second above old (subst (λ n. n.end ≡ Split d first second) e is) (before_old nodes new i parent above linked changed before old) is_child (is_history ∙ ap (λ (n : Node). Took d ∷ after n.block above) e)
        | inr late ↦ absurd (let c = changed.late_children parent d first second late is in omega (arith, c.0))
      ]
    ]
before_old nodes new i j history linked changed (at_second parent d first second above within is before is_child is_history) there =
    elim (cases_eq parent i) [
      | inl same ↦ absurd (let c = changed.children_fresh d first second (subst (λ p. (node_at new p).end ≡ Split d first second) same is) in omega (arith, c.1))
      | inr other ↦ elim (cases_lt parent (length nodes)) [
        | inl old ↦
            let e : node_at new parent ≡ node_at nodes parent = changed.others parent old other in
            at_second parent d first second above old (subst (λ n. n.end ≡ Split d first second) e is) (before_old nodes new i parent above linked changed before old) is_child (is_history ∙ ap (λ (n : Node). Refused d ∷ after n.block above) e)
        | inr late ↦ absurd (let c = changed.late_children parent d first second late is in omega (arith, c.1))
      ]
    ]

-- what stands before a new node is the decision behind the changed leaf
pub record IsOf (nodes new : List Node) (i j : ℕ) (history : List Event) : Type 0 where
  pub d : Decision
  pub first : NodeId
  pub second : NodeId
  pub is : (node_at new i).end ≡ Split d first second
  pub above : List Event
  pub before : Before nodes i above
  pub side : ((j ≡ first.number) × (history ≡ Took d ∷ after (node_at new i).block above)) ⊎ ((j ≡ second.number) × (history ≡ Refused d ∷ after (node_at new i).block above))

pub before_new : (nodes new : List Node) (i j : ℕ) (history : List Event) → IsLinked nodes → Changed nodes new i → Fresh nodes new → Before new j history → length nodes ≤ j → IsOf nodes new i j history
before_new nodes new i j history linked changed fresh (at_root is_root is_empty) late = absurd (omega (arith, linked.some))
before_new nodes new i j history linked changed fresh (at_first parent d first second above within is before is_child is_history) late =
    elim (cases_eq parent i) [
      | inl same ↦
          let is_i : (node_at new i).end ≡ Split d first second = subst (λ p. (node_at new p).end ≡ Split d first second) same is in
          let old : parent < length nodes = omega (arith, changed.there) in
          record {
            d = d;
            first = first;
            second = second;
            is = is_i;
            above = above;
            before = subst (λ p. Before nodes p above) same (before_old nodes new i parent above linked changed before old);
            side = inl (is_child, subst (λ p. history ≡ Took d ∷ after (node_at new p).block above) same is_history);
          }
      | inr other ↦ elim (cases_lt parent (length nodes)) [
        | inl old ↦
            let e : node_at new parent ≡ node_at nodes parent = changed.others parent old other in
            let family = linked.children parent d first second old (subst (λ n. n.end ≡ Split d first second) e is) in
            absurd (omega (arith, family.first_there))
        | inr far ↦ absurd (not_free (fresh parent far) is)
      ]
    ]
before_new nodes new i j history linked changed fresh (at_second parent d first second above within is before is_child is_history) late =
    elim (cases_eq parent i) [
      | inl same ↦
          let is_i : (node_at new i).end ≡ Split d first second = subst (λ p. (node_at new p).end ≡ Split d first second) same is in
          let old : parent < length nodes = omega (arith, changed.there) in
          record {
            d = d;
            first = first;
            second = second;
            is = is_i;
            above = above;
            before = subst (λ p. Before nodes p above) same (before_old nodes new i parent above linked changed before old);
            side = inr (is_child, subst (λ p. history ≡ Refused d ∷ after (node_at new p).block above) same is_history);
          }
      | inr other ↦ elim (cases_lt parent (length nodes)) [
        | inl old ↦
            let e : node_at new parent ≡ node_at nodes parent = changed.others parent old other in
            let family = linked.children parent d first second old (subst (λ n. n.end ≡ Split d first second) e is) in
            absurd (omega (arith, family.second_there))
        | inr far ↦ absurd (not_free (fresh parent far) is)
      ]
    ]

-- the nodes after a split behind a block
module _ (nodes : List Node) (i : ℕ) (block : List Step) (d : Decision) (there : i < length nodes) where
  kept : List Node
  kept = set nodes i (record (node_at nodes i) { block = block; end = split_end d (length nodes) })

  length-kept : length kept ≡ length nodes
  unfolding kept
  length-kept = length-set nodes i _

  pub length-split_behind_at : length (split_behind_at nodes i block d) ≡ length nodes + 2
  unfolding kept
  length-split_behind_at = length-append kept _ ∙ omega (arith, length-kept)

  pub split_behind_at-same : node_at (split_behind_at nodes i block d) i ≡ record (node_at nodes i) { block = block; end = split_end d (length nodes) }
  unfolding kept
  split_behind_at-same = get_or_append_left kept _ _ i (omega (arith, length-kept)) ∙ get_or-set_same nodes i _ _ there

  pub split_behind_at-other : (j : ℕ) → j < length nodes → j ≢ i → node_at (split_behind_at nodes i block d) j ≡ node_at nodes j
  unfolding kept
  split_behind_at-other j h other = get_or_append_left kept _ _ j (omega (arith, length-kept)) ∙ get_or-set_other nodes i j _ _ other

  -- the nodes behind those that were there
  pub split_behind_at-behind : (j : ℕ) → length nodes ≤ j → node_at (split_behind_at nodes i block d) j ≡ node_at (open_node (Some (record { number = i })) ∷ open_node (Some (record { number = i })) ∷ []) (j - length nodes)
  unfolding kept
  split_behind_at-behind j h = get_or-append_right kept _ (length nodes) j _ length-kept h

  pub split_behind_at-first : node_at (split_behind_at nodes i block d) (length nodes) ≡ open_node (Some (record { number = i }))
  split_behind_at-first = let e : length nodes - length nodes ≡ 0 = omega arith in split_behind_at-behind (length nodes) (omega arith) ∙ rw e refl

  pub split_behind_at-second : node_at (split_behind_at nodes i block d) (length nodes + 1) ≡ open_node (Some (record { number = i }))
  split_behind_at-second = let e : length nodes + 1 - length nodes ≡ 1 = omega arith in split_behind_at-behind (length nodes + 1) (omega arith) ∙ rw e refl

-- the nodes after a split behind the leaf's own block
module _ (nodes : List Node) (i : ℕ) (d : Decision) (there : i < length nodes) where
  pub length-split_at : length (split_at nodes i d) ≡ length nodes + 2
  length-split_at = length-split_behind_at nodes i (node_at nodes i).block d there

  pub split_at-same : node_at (split_at nodes i d) i ≡ record (node_at nodes i) { end = split_end d (length nodes) }
  split_at-same = split_behind_at-same nodes i (node_at nodes i).block d there

  pub split_at-other : (j : ℕ) → j < length nodes → j ≢ i → node_at (split_at nodes i d) j ≡ node_at nodes j
  split_at-other = split_behind_at-other nodes i (node_at nodes i).block d there

  pub split_at-first : node_at (split_at nodes i d) (length nodes) ≡ open_node (Some (record { number = i }))
  split_at-first = split_behind_at-first nodes i (node_at nodes i).block d there

  pub split_at-second : node_at (split_at nodes i d) (length nodes + 1) ≡ open_node (Some (record { number = i }))
  split_at-second = split_behind_at-second nodes i (node_at nodes i).block d there

two_free : (o : Node) → o.end ≡ Free → (m : ℕ) → (node_at (o ∷ o ∷ []) m).end ≡ Free
two_free o h zero = h
two_free o h (suc zero) = h
two_free o h (suc (suc m)) = refl

pub split_numbers : {d c : Decision} {n : ℕ} {first second : NodeId} → split_end d n ≡ Split c first second → (c ≡ d) × (first.number ≡ n) × (second.number ≡ n + 1)
split_numbers e = ((cc), (cc), (cc))

pub fresh_by_split : (nodes : List Node) (i : ℕ) (block : List Step) (d : Decision) → i < length nodes → Fresh nodes (split_behind_at nodes i block d)
fresh_by_split nodes i block d there j late = ap (λ (n : Node). n.end) (split_behind_at-behind nodes i block d there j late) ∙ two_free _ refl (j - length nodes)

pub changed_by_split : (nodes : List Node) (i : ℕ) (block : List Step) (d : Decision) → i < length nodes → IsFree nodes i → Changed nodes (split_behind_at nodes i block d) i
changed_by_split nodes i block d there free = record {
  there = there;
  free = free;
  no_fewer = omega (arith, length-split_behind_at nodes i block d there);
  others = λ j h other. split_behind_at-other nodes i block d there j h other;
  children_fresh = λ c first second is.
      let n = split_numbers (ap (λ (n : Node). n.end) (sym (split_behind_at-same nodes i block d there)) ∙ is) in
      (omega (arith, n.1), omega (arith, n.2));
  late_children = λ j c first second late is. absurd (not_free (fresh_by_split nodes i block d there j late) is);
}

pub or_true : (b : Bool) → (b || true) ≡ true
or_true true = refl
or_true false = refl

names_first : (d : Decision) (n : ℕ) → IsTrue (names_child (split_end d n) n)
names_first d n = let e : (n == n) ≡ true = eq-eqb n n refl in rw e refl

names_second : (d : Decision) (n : ℕ) → IsTrue (names_child (split_end d n) (n + 1))
names_second d n = let e : (n + 1 == n + 1) ≡ true = eq-eqb (n + 1) (n + 1) refl in rw e (or_true (n == n + 1))

-- a node names no child where it is an open leaf
names_none : (e : End) (j : ℕ) → e ≡ Free → IsTrue (names_child e j) → ⊥
names_none e j h k = let k' : false ≡ true = subst (λ d. IsTrue (names_child d j)) h k in cc

-- a list of nodes stays linked where one open leaf changes and its children stand behind
module _ (nodes new : List Node) (i : ℕ) (linked : IsLinked nodes) (changed : Changed nodes new i) (parent_kept : (node_at new i).parent ≡ (node_at nodes i).parent) where
  pub parents_kept : (j : ℕ) → j < length nodes → (node_at new j).parent ≡ (node_at nodes j).parent
  parents_kept j h = elim (cases_eq j i) [ inl same ↦ subst (λ n. (node_at new n).parent ≡ (node_at nodes n).parent) (sym same) parent_kept | inr other ↦ ap (λ (n : Node). n.parent) (changed.others j h other) ]

  pub family_kept : (j : ℕ) (d : Decision) (first second : NodeId) → j < length nodes → j ≢ i → (node_at new j).end ≡ Split d first second → IsFamily new j first.number second.number
  family_kept j d first second h other is =
      let family = linked.children j d first second h (ap (λ (n : Node). n.end) (sym (changed.others j h other)) ∙ is) in
      record {
        first_behind = family.first_behind;
        first_there = omega (arith, family.first_there, changed.no_fewer);
        second_behind = family.second_behind;
        second_there = omega (arith, family.second_there, changed.no_fewer);
        different = family.different;
        first_knows = parents_kept first.number family.first_there ∙ family.first_knows;
        second_knows = parents_kept second.number family.second_there ∙ family.second_knows;
      }

  pub named_kept : (j : ℕ) (parent : NodeId) → j < length nodes → (node_at new j).parent ≡ Some parent → (parent.number < j) × IsTrue (names_child (node_at new parent.number).end j)
  named_kept j parent h is =
      let old = linked.parents j parent h (sym (parents_kept j h) ∙ is) in
      let other : parent.number ≢ i = λ same. names_none (node_at nodes i).end j changed.free (subst (λ p. IsTrue (names_child (node_at nodes p).end j)) same old.1) in
      let there : parent.number < length nodes = omega (arith, old.0) in
      (old.0, subst (λ (n : Node). IsTrue (names_child n.end j)) (sym (changed.others parent.number there other)) old.1)

some_number : {i : ℕ} {parent : NodeId} → Some (record { number = i }) ≡ Some parent → parent.number ≡ i
some_number e = (cc)

pub linked_by_split : (nodes : List Node) (i : ℕ) (block : List Step) (d : Decision) → IsLinked nodes → i < length nodes → IsFree nodes i → length nodes + 2 ≤ 2 ^ 32 → IsLinked (split_behind_at nodes i block d)
linked_by_split nodes i block d linked there free room =
    let changed = changed_by_split nodes i block d there free in
    let same = split_behind_at-same nodes i block d there in
    let len = length-split_behind_at nodes i block d there in
    let kept : (node_at (split_behind_at nodes i block d) i).parent ≡ (node_at nodes i).parent = ap (λ (n : Node). n.parent) same in
    record {
      some = omega (arith, len, linked.some);
      few = omega (arith, len, room);
      root = parents_kept nodes (split_behind_at nodes i block d) i linked changed kept 0 linked.some ∙ linked.root;
      only_root = λ j h none. elim (cases_lt j (length nodes)) [
        | inl old ↦ linked.only_root j old (sym (parents_kept nodes (split_behind_at nodes i block d) i linked changed kept j old) ∙ none)
        | inr late ↦ absurd (elim (cases_eq j (length nodes)) [
          | inl first ↦ (let e : Some (record { number = i }) ≡ None = ap (λ (n : Node). n.parent) (sym (split_behind_at-first nodes i block d there)) ∙ subst (λ m. (node_at (split_behind_at nodes i block d) m).parent ≡ None) first none in cc)
          | inr other ↦ (let second : j ≡ length nodes + 1 = omega (arith, len) in let e : Some (record { number = i }) ≡ None = ap (λ (n : Node). n.parent) (sym (split_behind_at-second nodes i block d there)) ∙ subst (λ m. (node_at (split_behind_at nodes i block d) m).parent ≡ None) second none in cc)
        ])
      ];
      children = λ j c first second h is. elim (cases_eq j i) [
        | inl at_leaf ↦
            (let n = split_numbers (ap (λ (n : Node). n.end) (sym same) ∙ subst (λ m. (node_at (split_behind_at nodes i block d) m).end ≡ Split c first second) at_leaf is) in
            let e1 : first.number ≡ length nodes = n.1 in
            let e2 : second.number ≡ length nodes + 1 = n.2 in
            record {
              first_behind = omega arith;
              first_there = omega (arith, len);
              second_behind = omega arith;
              second_there = omega (arith, len);
              different = λ d. omega arith;
              first_knows = ap (λ m. (node_at (split_behind_at nodes i block d) m).parent) e1 ∙ ap (λ (n : Node). n.parent) (split_behind_at-first nodes i block d there) ∙ ap (λ m. Some (record { number = m })) (sym at_leaf);
              second_knows = ap (λ m. (node_at (split_behind_at nodes i block d) m).parent) e2 ∙ ap (λ (n : Node). n.parent) (split_behind_at-second nodes i block d there) ∙ ap (λ m. Some (record { number = m })) (sym at_leaf);
            })
        | inr other ↦ elim (cases_lt j (length nodes)) [
          | inl old ↦ family_kept nodes (split_behind_at nodes i block d) i linked changed kept j c first second old other is
          | inr late ↦ absurd (not_free (fresh_by_split nodes i block d there j late) is)
        ]
      ];
      parents = λ j parent h is. elim (cases_lt j (length nodes)) [
        | inl old ↦ named_kept nodes (split_behind_at nodes i block d) i linked changed kept j parent old is
        | inr late ↦ elim (cases_eq j (length nodes)) [
          | inl first ↦
              (let e : parent.number ≡ i = some_number (ap (λ (n : Node). n.parent) (sym (split_behind_at-first nodes i block d there)) ∙ subst (λ m. (node_at (split_behind_at nodes i block d) m).parent ≡ Some parent) first is) in
              let named : IsTrue (names_child (node_at (split_behind_at nodes i block d) i).end (length nodes)) = subst (λ (n : Node). IsTrue (names_child n.end (length nodes))) (sym same) (names_first d (length nodes)) in
              (omega arith, subst (λ p. IsTrue (names_child (node_at (split_behind_at nodes i block d) p).end j)) (sym e) (subst (λ m. IsTrue (names_child (node_at (split_behind_at nodes i block d) i).end m)) (sym first) named)))
          | inr other ↦
              (let second : j ≡ length nodes + 1 = omega (arith, len) in
              let e : parent.number ≡ i = some_number (ap (λ (n : Node). n.parent) (sym (split_behind_at-second nodes i block d there)) ∙ subst (λ m. (node_at (split_behind_at nodes i block d) m).parent ≡ Some parent) second is) in
              let named : IsTrue (names_child (node_at (split_behind_at nodes i block d) i).end (length nodes + 1)) = subst (λ (n : Node). IsTrue (names_child n.end (length nodes + 1))) (sym same) (names_second d (length nodes)) in
              (omega arith, subst (λ p. IsTrue (names_child (node_at (split_behind_at nodes i block d) p).end j)) (sym e) (subst (λ m. IsTrue (names_child (node_at (split_behind_at nodes i block d) i).end m)) (sym second) named)))
        ]
      ];
    }

-- the nodes after a closing
module _ (nodes : List Node) (i : ℕ) (block : List Step) (there : i < length nodes) where
  pub length-close_at : length (close_at nodes i block) ≡ length nodes
  length-close_at = length-set nodes i _

  pub close_at-same : node_at (close_at nodes i block) i ≡ record (node_at nodes i) { block = block; end = Shut }
  close_at-same = get_or-set_same nodes i _ _ there

  pub close_at-other : (j : ℕ) → j ≢ i → node_at (close_at nodes i block) j ≡ node_at nodes j
  close_at-other j other = get_or-set_other nodes i j _ _ other

pub past : (nodes : List Node) (j : ℕ) → length nodes ≤ j → (node_at nodes j).end ≡ Free
past [] j h = refl
past (node ∷ nodes) zero h = absurd (omega arith)
past (node ∷ nodes) (suc j) h = past nodes j (omega arith)

not_both : {d : Decision} {first second : NodeId} {e : End} → e ≡ Shut → e ≡ Split d first second → ⊥
not_both h k = cc

pub fresh_by_close : (nodes : List Node) (i : ℕ) (block : List Step) → i < length nodes → Fresh nodes (close_at nodes i block)
fresh_by_close nodes i block there j late = past (close_at nodes i block) j (omega (arith, length-close_at nodes i block there))

pub changed_by_close : (nodes : List Node) (i : ℕ) (block : List Step) → i < length nodes → IsFree nodes i → Changed nodes (close_at nodes i block) i
changed_by_close nodes i block there free = record {
  there = there;
  free = free;
  no_fewer = omega (arith, length-close_at nodes i block there);
  others = λ j h other. close_at-other nodes i block there j other;
  children_fresh = λ c first second is. absurd (not_both (ap (λ (n : Node). n.end) (close_at-same nodes i block there)) is);
  late_children = λ j c first second late is. absurd (not_free (fresh_by_close nodes i block there j late) is);
}

module _ (nodes : List Node) (i : ℕ) (block : List Step) (there : i < length nodes) where
  pub length-leave_at : length (leave_at nodes i block) ≡ length nodes
  length-leave_at = length-set nodes i _

  pub leave_at-same : node_at (leave_at nodes i block) i ≡ record (node_at nodes i) { block = block }
  leave_at-same = get_or-set_same nodes i _ _ there

  pub leave_at-other : (j : ℕ) → j ≢ i → node_at (leave_at nodes i block) j ≡ node_at nodes j
  leave_at-other j other = get_or-set_other nodes i j _ _ other

pub fresh_by_leave : (nodes : List Node) (i : ℕ) (block : List Step) → i < length nodes → Fresh nodes (leave_at nodes i block)
fresh_by_leave nodes i block there j late = past (leave_at nodes i block) j (omega (arith, length-leave_at nodes i block there))

left_free : (nodes : List Node) (i : ℕ) (block : List Step) → i < length nodes → IsFree nodes i → IsFree (leave_at nodes i block) i
left_free nodes i block there free = ap (λ (n : Node). n.end) (leave_at-same nodes i block there) ∙ free

pub changed_by_leave : (nodes : List Node) (i : ℕ) (block : List Step) → i < length nodes → IsFree nodes i → Changed nodes (leave_at nodes i block) i
changed_by_leave nodes i block there free = record {
  there = there;
  free = free;
  no_fewer = omega (arith, length-leave_at nodes i block there);
  others = λ j h other. leave_at-other nodes i block there j other;
  children_fresh = λ c first second is. absurd (not_free (left_free nodes i block there free) is);
  late_children = λ j c first second late is. absurd (not_free (fresh_by_leave nodes i block there j late) is);
}

pub linked_by_leave : (nodes : List Node) (i : ℕ) (block : List Step) → IsLinked nodes → i < length nodes → IsFree nodes i → IsLinked (leave_at nodes i block)
linked_by_leave nodes i block linked there free =
    let changed = changed_by_leave nodes i block there free in
    let same = leave_at-same nodes i block there in
    let len = length-leave_at nodes i block there in
    let kept : (node_at (leave_at nodes i block) i).parent ≡ (node_at nodes i).parent = ap (λ (n : Node). n.parent) same in
    record {
      some = omega (arith, len, linked.some);
      few = omega (arith, len, linked.few);
      root = parents_kept nodes (leave_at nodes i block) i linked changed kept 0 linked.some ∙ linked.root;
      only_root = λ j h none. linked.only_root j (omega (arith, len)) (sym (parents_kept nodes (leave_at nodes i block) i linked changed kept j (omega (arith, len))) ∙ none);
      children = λ j c first second h is. elim (cases_eq j i) [
        | inl at_leaf ↦ absurd (not_free (left_free nodes i block there free) (subst (λ m. (node_at (leave_at nodes i block) m).end ≡ Split c first second) at_leaf is))
        | inr other ↦ family_kept nodes (leave_at nodes i block) i linked changed kept j c first second (omega (arith, len)) other is
      ];
      parents = λ j parent h is. named_kept nodes (leave_at nodes i block) i linked changed kept j parent (omega (arith, len)) is;
    }

pub linked_by_close : (nodes : List Node) (i : ℕ) (block : List Step) → IsLinked nodes → i < length nodes → IsFree nodes i → IsLinked (close_at nodes i block)
linked_by_close nodes i block linked there free =
    let changed = changed_by_close nodes i block there free in
    let same = close_at-same nodes i block there in
    let len = length-close_at nodes i block there in
    let kept : (node_at (close_at nodes i block) i).parent ≡ (node_at nodes i).parent = ap (λ (n : Node). n.parent) same in
    record {
      some = omega (arith, len, linked.some);
      few = omega (arith, len, linked.few);
      root = parents_kept nodes (close_at nodes i block) i linked changed kept 0 linked.some ∙ linked.root;
      only_root = λ j h none. linked.only_root j (omega (arith, len)) (sym (parents_kept nodes (close_at nodes i block) i linked changed kept j (omega (arith, len))) ∙ none);
      children = λ j c first second h is. elim (cases_eq j i) [
        | inl at_leaf ↦ absurd (not_both (ap (λ (n : Node). n.end) same) (subst (λ m. (node_at (close_at nodes i block) m).end ≡ Split c first second) at_leaf is))
        | inr other ↦ family_kept nodes (close_at nodes i block) i linked changed kept j c first second (omega (arith, len)) other is
      ];
      parents = λ j parent h is. named_kept nodes (close_at nodes i block) i linked changed kept j parent (omega (arith, len)) is;
    }

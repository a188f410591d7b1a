-- Which history stands before a node, and what a split or a closing of an open leaf adds to a tree.
use Rattle.std.proofs.Common.{◌≡◌, ◌≢◌, ℕ, zero, suc, ◌+◌, ◌<◌, ◌≤◌, ◌^◌, ◌⊎◌, inl, inr, List, [], ◌∷◌, ◌++◌, length, Option, Some, None, refl, sym, ap, ◌∙◌, subst, arith, append_assoc, length-append}
use Rattle.std.proofs.lemmas.Bool.{cases_eq}
use Rattle.std.specs.Prelude.{true, false, ◌||◌, ◌==◌, IsTrue}
use Rattle.cfn_model.specs.declared.step.Step.{Step}
use Rattle.cfn_model.specs.declared.step.Decision.{Decision}
use Rattle.cfn_model.specs.declared.step.Event.{Event}
use Rattle.cfn_model.specs.declared.step.Event.TheVariants.{Did, Took, Refused}
use Rattle.cfn_model.specs.Steps.{after}
use Rattle.cfn_model.specs.Tree as trees
use Rattle.cfn_model.specs.Tree.{count, splits}
use Rattle.cfn_proof.specs.declared.tree.NodeId.{NodeId}
use Rattle.cfn_proof.specs.declared.tree.End.{End}
use Rattle.cfn_proof.specs.declared.tree.End.TheVariants.{Free, Shut, Split}
use Rattle.cfn_proof.specs.declared.tree.Node.{Node}
use Rattle.cfn_proof.specs.Nodes.{node_at, names_child, tree_at, tree_of, with_children, IsLinked, IsFree, Before, at_root, at_first, at_second, split_behind_at, split_end, close_at}
use Rattle.cfn_proof.specs.Local.{BeforeSplitLaw, BeforeSplitBehindLaw, BeforeCloseLaw, BeforeOnceLaw, BeforeSomeLaw, CountSplitLaw, CountSplitBehindLaw, CountCloseLaw, SplitsSplitLaw, SplitsSplitBehindLaw, SplitsCloseLaw}
use Rattle.cfn_proof.proofs.TreeLemmas.{tree_at_is, from_last}
use Rattle.cfn_proof.proofs.Growth.{Changed, before_old, before_new, fresh_by_split, changed_by_split, changed_by_close, split_numbers, split_behind_at-same, split_behind_at-first, split_behind_at-second, length-split_behind_at, close_at-same, length-close_at, linked_by_split, linked_by_close}

-- the kinds of what stands before a node, by the node's parent
pub record Side (nodes : List Node) (i : ℕ) (history : List Event) : Type 0 where
  pub parent : ℕ
  pub d : Decision
  pub first : NodeId
  pub second : NodeId
  pub above : List Event
  pub there : parent < length nodes
  pub is : (node_at nodes parent).end ≡ Split d first second
  pub before : Before nodes parent above
  pub knows : (node_at nodes i).parent ≡ Some (record { number = parent })
  pub side : ((i ≡ first.number) × (history ≡ Took d ∷ after (node_at nodes parent).block above)) ⊎ ((i ≡ second.number) × (history ≡ Refused d ∷ after (node_at nodes parent).block above))

pub side_of : (nodes : List Node) (i : ℕ) (history : List Event) → IsLinked nodes → Before nodes i history → ((i ≡ 0) × (history ≡ [])) ⊎ Side nodes i history
side_of nodes i history linked (at_root is_root is_empty) = inl (is_root, is_empty)
side_of nodes i history linked (at_first parent d first second above there is before is_child is_history) =
    inr (record { parent = parent; d = d; first = first; second = second; above = above; there = there; is = is; before = before; knows = ap (λ m. (node_at nodes m).parent) is_child ∙ (linked.children parent d first second there is).first_knows; side = inl (is_child, is_history) })
side_of nodes i history linked (at_second parent d first second above there is before is_child is_history) =
    inr (record { parent = parent; d = d; first = first; second = second; above = above; there = there; is = is; before = before; knows = ap (λ m. (node_at nodes m).parent) is_child ∙ (linked.children parent d first second there is).second_knows; side = inr (is_child, is_history) })

same_parent : {p q : ℕ} {o : Option NodeId} → o ≡ Some (record { number = p }) → o ≡ Some (record { number = q }) → p ≡ q
same_parent {p = p} {q = q} e f = let N : ℕ → NodeId = λ n. record { number = n } in let g : N p ≡ N q = cc in ap (λ (n : NodeId). n.number) g

split_parts : {e : End} {d c : Decision} {first second third fourth : NodeId} → e ≡ Split d first second → e ≡ Split c third fourth → (d ≡ c) × (first ≡ third) × (second ≡ fourth)
split_parts e f = ((cc), (cc), (cc))

no_parent : {p : ℕ} {o : Option NodeId} → o ≡ None → o ≡ Some (record { number = p }) → ⊥
no_parent e f = cc

pub before_once : BeforeOnceLaw
before_once nodes i history other linked (at_root is_root is_empty) second_way =
    elim (side_of nodes i other linked second_way) [
      | inl same ↦ is_empty ∙ sym same.1
      | inr s ↦ absurd (no_parent (ap (λ m. (node_at nodes m).parent) is_root ∙ linked.root) s.knows)
    ]
before_once nodes i history other linked (at_first parent d first second above there is before is_child is_history) second_way =
    let family = linked.children parent d first second there is in
    elim (side_of nodes i other linked second_way) [
      | inl same ↦ absurd (omega (arith, family.first_behind, same.0))
      | inr s ↦
          (let same : s.parent ≡ parent = same_parent s.knows (ap (λ m. (node_at nodes m).parent) is_child ∙ family.first_knows) in
          let before' : Before nodes parent s.above = subst (λ p. Before nodes p s.above) same s.before in
          let rest : above ≡ s.above = before_once nodes parent above s.above linked before before' in
          let parts = split_parts is (subst (λ p. (node_at nodes p).end ≡ Split s.d s.first s.second) same s.is) in
          elim s.side [
            | inl left ↦ is_history ∙ ap (λ p. Took d ∷ after (node_at nodes p).block above) (sym same) ∙ ap (λ h. Took d ∷ after (node_at nodes s.parent).block h) rest ∙ ap (λ c. Took c ∷ after (node_at nodes s.parent).block s.above) parts.0 ∙ sym left.1
            | inr right ↦ absurd (family.different (sym is_child ∙ right.0 ∙ ap (λ (n : NodeId). n.number) (sym parts.2)))
          ])
    ]
before_once nodes i history other linked (at_second parent d first second above there is before is_child is_history) second_way =
    let family = linked.children parent d first second there is in
    elim (side_of nodes i other linked second_way) [
      | inl same ↦ absurd (omega (arith, family.second_behind, same.0))
      | inr s ↦
          (let same : s.parent ≡ parent = same_parent s.knows (ap (λ m. (node_at nodes m).parent) is_child ∙ family.second_knows) in
          let before' : Before nodes parent s.above = subst (λ p. Before nodes p s.above) same s.before in
          let rest : above ≡ s.above = before_once nodes parent above s.above linked before before' in
          let parts = split_parts is (subst (λ p. (node_at nodes p).end ≡ Split s.d s.first s.second) same s.is) in
          elim s.side [
            | inl left ↦ absurd (family.different (ap (λ (n : NodeId). n.number) parts.1 ∙ sym left.0 ∙ is_child))
            | inr right ↦ is_history ∙ ap (λ p. Refused d ∷ after (node_at nodes p).block above) (sym same) ∙ ap (λ h. Refused d ∷ after (node_at nodes s.parent).block h) rest ∙ ap (λ c. Refused c ∷ after (node_at nodes s.parent).block s.above) parts.0 ∙ sym right.1
          ])
    ]

-- the leaf that was split has the block
put_block : (nodes : List Node) (i : ℕ) (block : List Step) (d : Decision) → i < length nodes → (node_at (split_behind_at nodes i block d) i).block ≡ block
put_block nodes i block d there = ap (λ (n : Node). n.block) (split_behind_at-same nodes i block d there)

pub before_split_behind : BeforeSplitBehindLaw
before_split_behind nodes i block d j history linked there free before =
    let changed = changed_by_split nodes i block d there free in (
      λ old. before_old nodes (split_behind_at nodes i block d) i j history linked changed before old,
      λ first.
          let new = before_new nodes (split_behind_at nodes i block d) i j history linked changed (fresh_by_split nodes i block d there) before (omega (arith, first)) in
          let n = split_numbers (ap (λ (n : Node). n.end) (sym (split_behind_at-same nodes i block d there)) ∙ new.is) in
          elim new.side [
            | inl left ↦ record { above = new.above; before = new.before; is = left.1 ∙ ap (λ c. Took c ∷ after (node_at (split_behind_at nodes i block d) i).block new.above) n.0 ∙ ap (λ b. Took d ∷ after b new.above) (put_block nodes i block d there) }
            | inr right ↦ absurd (omega (arith, right.0, n.2, first))
          ],
      λ second.
          let new = before_new nodes (split_behind_at nodes i block d) i j history linked changed (fresh_by_split nodes i block d there) before (omega (arith, second)) in
          let n = split_numbers (ap (λ (n : Node). n.end) (sym (split_behind_at-same nodes i block d there)) ∙ new.is) in
          elim new.side [
            | inl left ↦ absurd (omega (arith, left.0, n.1, second))
            | inr right ↦ record { above = new.above; before = new.before; is = right.1 ∙ ap (λ c. Refused c ∷ after (node_at (split_behind_at nodes i block d) i).block new.above) n.0 ∙ ap (λ b. Refused d ∷ after b new.above) (put_block nodes i block d there) }
          ],
    )

pub before_split : BeforeSplitLaw
before_split nodes i d = before_split_behind nodes i (node_at nodes i).block d

-- a node that something stands before is there
pub before_there : (nodes : List Node) (i : ℕ) (history : List Event) → IsLinked nodes → Before nodes i history → i < length nodes
before_there nodes i history linked (at_root is_root is_empty) = omega (arith, linked.some, is_root)
before_there nodes i history linked (at_first parent d first second above there is before is_child is_history) = omega (arith, is_child, (linked.children parent d first second there is).first_there)
before_there nodes i history linked (at_second parent d first second above there is before is_child is_history) = omega (arith, is_child, (linked.children parent d first second there is).second_there)

pub before_close : BeforeCloseLaw
before_close nodes i block j history linked there free before =
    before_old nodes (close_at nodes i block) i j history linked (changed_by_close nodes i block there free) before
    (omega (arith, before_there (close_at nodes i block) j history (linked_by_close nodes i block linked there free) before, length-close_at nodes i block there))

-- what a child's end names
pub named : (e : End) (i : ℕ) → IsTrue (names_child e i) → (d : Decision) × (first : NodeId) × (second : NodeId) × (e ≡ Split d first second) × ((first.number ≡ i) ⊎ (second.number ≡ i))
named Free i h = absurd (let k : false ≡ true = h in cc)
named Shut i h = absurd (let k : false ≡ true = h in cc)
named (Split d first second) i h =
    (d, first, second, refl, elim (cases_eq first.number i) [ inl left ↦ inl left | inr other ↦ elim (cases_eq second.number i) [ inl right ↦ inr right | inr neither ↦ absurd (none_named first.number second.number i other neither h) ] ])
  where
    none_named : (f s i : ℕ) → f ≢ i → s ≢ i → IsTrue ((f == i) || (s == i)) → ⊥
    none_named f s i p q h = grind arith

-- a history before a node from one before its parent
from_parent : (nodes : List Node) (linked : IsLinked nodes) (i : ℕ) (there : i < length nodes) → ((p : ℕ) → p < i → (history : List Event) × Before nodes p history) → (o : Option NodeId) → (node_at nodes i).parent ≡ o → (history : List Event) × Before nodes i history
from_parent nodes linked i there above_of None is = ([], at_root (linked.only_root i there is) refl)
from_parent nodes linked i there above_of (Some parent) is =
    let up = linked.parents i parent there is in
    let child = named (node_at nodes parent.number).end i up.1 in
    let above = above_of parent.number up.0 in
    elim child.4 [
      | inl left ↦ (Took child.0 ∷ after (node_at nodes parent.number).block above.0, at_first parent.number child.0 child.1 child.2 above.0 (omega (arith, up.0)) child.3 above.1 (sym left) refl)
      | inr right ↦ (Refused child.0 ∷ after (node_at nodes parent.number).block above.0, at_second parent.number child.0 child.1 child.2 above.0 (omega (arith, up.0)) child.3 above.1 (sym right) refl)
    ]

some_from : (nodes : List Node) → IsLinked nodes → (m i : ℕ) → i < m → i < length nodes → (history : List Event) × Before nodes i history
some_from nodes linked zero i small there = absurd (omega arith)
some_from nodes linked (suc m) i small there =
    from_parent nodes linked i there (λ p h. some_from nodes linked m p (omega arith) (omega arith)) (node_at nodes i).parent refl

pub before_some : BeforeSomeLaw
before_some nodes i linked there = some_from nodes linked (suc i) i (omega arith) there

-- a history that another goes on from
pub IsEnd : List Event → List Event → Type 0
IsEnd early late = (front : List Event) × (late ≡ front ++ early)

end_of_cons : (event : Event) (early late : List Event) → IsEnd (event ∷ early) late → IsEnd early late
unfolding IsEnd
end_of_cons event early late h = (h.0 ++ event ∷ [], h.1 ∙ sym (append_assoc h.0 (event ∷ []) early))

end_of_after : (block : List Step) (early late : List Event) → IsEnd (after block early) late → IsEnd early late
end_of_after [] early late h = h
end_of_after (step ∷ block) early late h = end_of_cons (Did step) early late (end_of_after block (Did step ∷ early) late h)

-- two lists that end alike in as many elements end in the same
same_ends : (x y : Event) (xs front back : List Event) → front ++ x ∷ xs ≡ back ++ y ∷ xs → x ≡ y
same_ends x y xs [] [] e = cc
same_ends x y xs [] (b ∷ back) e = absurd (let l = ap length e in omega (arith, l, length-append back (y ∷ xs)))
same_ends x y xs (f ∷ front) [] e = absurd (let l = ap length e in omega (arith, l, length-append front (x ∷ xs)))
same_ends x y xs (f ∷ front) (b ∷ back) e = same_ends x y xs front back (cc)

one_side : (d : Decision) (early late : List Event) → IsEnd (Took d ∷ early) late → IsEnd (Refused d ∷ early) late → ⊥
unfolding IsEnd
one_side d early late h k = let e : Took d ≡ Refused d = same_ends (Took d) (Refused d) early h.0 k.0 (sym h.1 ∙ k.1) in cc

-- a measure of trees that at a split is one more than on both its sides
abbrev pub AddsOverSplits : (trees.Tree → ℕ) → Type 0
AddsOverSplits measure = (block : List Step) (d : Decision) (first second : trees.Tree) → measure (trees.Split block d first second) ≡ 1 + (measure first + measure second)

-- a subtree that the changed leaf is not in stays
module _ (nodes new : List Node) (i : ℕ) (here : List Event) (linked : IsLinked nodes) (linked_new : IsLinked new) (changed : Changed nodes new i) (before_here : Before nodes i here) where
  children_same : (j : ℕ) (history : List Event) (e : End) → j < length nodes → Before nodes j history → (node_at nodes j).end ≡ e → (IsEnd history here → ⊥) → ((c : ℕ) → j < c → c < length nodes → (h : List Event) → Before nodes c h → (IsEnd h here → ⊥) → tree_at new c ≡ tree_at nodes c) → with_children (node_at nodes j).block e (tree_at new) ≡ with_children (node_at nodes j).block e (tree_at nodes)
  children_same j history Free there before is apart later = refl
  children_same j history Shut there before is apart later = refl
  children_same j history (Split d first second) there before is apart later =
      let family = linked.children j d first second there is in
      let left = later first.number family.first_behind family.first_there (Took d ∷ after (node_at nodes j).block history) (at_first j d first second history there is before refl refl) (λ h. apart (end_of_after (node_at nodes j).block history here (end_of_cons (Took d) (after (node_at nodes j).block history) here h))) in
      let right = later second.number family.second_behind family.second_there (Refused d ∷ after (node_at nodes j).block history) (at_second j d first second history there is before refl refl) (λ h. apart (end_of_after (node_at nodes j).block history here (end_of_cons (Refused d) (after (node_at nodes j).block history) here h))) in
      ap (λ t. trees.Split (node_at nodes j).block d t (tree_at new second.number)) left ∙ ap (λ t. trees.Split (node_at nodes j).block d (tree_at nodes first.number) t) right

  at_leaf : (history : List Event) → Before nodes i history → IsEnd history here
  unfolding IsEnd
  at_leaf history before = ([], before_once nodes i here history linked before_here before)

  pub apart_same : (j : ℕ) → j < length nodes → (history : List Event) → Before nodes j history → (IsEnd history here → ⊥) → tree_at new j ≡ tree_at nodes j
  apart_same = from_last (length nodes) (λ j. (history : List Event) → Before nodes j history → (IsEnd history here → ⊥) → tree_at new j ≡ tree_at nodes j)
      (λ j there later history before apart.
      let other : j ≢ i = λ same. apart (at_leaf history (subst (λ m. Before nodes m history) same before)) in
      let e : node_at new j ≡ node_at nodes j = changed.others j there other in
      tree_at_is new j linked_new (omega (arith, changed.no_fewer))
      ∙ ap (λ (n : Node). with_children n.block n.end (tree_at new)) e
      ∙ children_same j history (node_at nodes j).end there before refl apart later
      ∙ sym (tree_at_is nodes j linked there))

  node_same : (j : ℕ) (d : Decision) (first second : NodeId) → j < length nodes → (node_at nodes j).end ≡ Split d first second → node_at new j ≡ node_at nodes j
  node_same j d first second there is = changed.others j there (λ same. split_not_free changed.free (subst (λ m. (node_at nodes m).end ≡ Split d first second) same is))
    where
      split_not_free : {e : End} → e ≡ Free → e ≡ Split d first second → ⊥
      split_not_free h k = cc

  as_split : (m : List Node) (j : ℕ) (d : Decision) (first second : NodeId) → IsLinked m → j < length m → (node_at m j).end ≡ Split d first second → tree_at m j ≡ trees.Split (node_at m j).block d (tree_at m first.number) (tree_at m second.number)
  as_split m j d first second l there is = tree_at_is m j l there ∙ ap (λ e. with_children (node_at m j).block e (tree_at m)) is

  -- what holds of a subtree before and after, and goes over to the splits above it, holds of the whole tree
  pub climbed : (R : List Event → trees.Tree → trees.Tree → Type 0) → ((block : List Step) (d : Decision) (above : List Event) (old now other : trees.Tree) → R (Took d ∷ after block above) old now → R above (trees.Split block d old other) (trees.Split block d now other)) → ((block : List Step) (d : Decision) (above : List Event) (old now other : trees.Tree) → R (Refused d ∷ after block above) old now → R above (trees.Split block d other old) (trees.Split block d other now)) → (j : ℕ) (history : List Event) → Before nodes j history → IsEnd history here → R history (tree_at nodes j) (tree_at new j) → R [] (tree_of nodes) (tree_of new)
  climbed R took refused j history (at_root is_root is_empty) end holds = subst (λ h. R h (tree_of nodes) (tree_of new)) is_empty (subst (λ m. R history (tree_at nodes m) (tree_at new m)) is_root holds)
  climbed R took refused j history (at_first parent d first second above there is before is_child is_history) end holds =
      let block = (node_at nodes parent).block in
      let e = node_same parent d first second there is in
      let family = linked.children parent d first second there is in
      let h : IsEnd (Took d ∷ after block above) here = subst (λ h. IsEnd h here) is_history end in
      let same : tree_at new second.number ≡ tree_at nodes second.number =
      apart_same second.number family.second_there (Refused d ∷ after block above) (at_second parent d first second above there is before refl refl) (λ k. one_side d (after block above) here h k) in
      let up : IsEnd above here = end_of_after block above here (end_of_cons (Took d) (after block above) here h) in
      let here_holds : R (Took d ∷ after block above) (tree_at nodes first.number) (tree_at new first.number) = subst (λ h. R h (tree_at nodes first.number) (tree_at new first.number)) is_history (subst (λ c. R history (tree_at nodes c) (tree_at new c)) is_child holds) in
      let now : tree_at new parent ≡ trees.Split block d (tree_at new first.number) (tree_at nodes second.number) =
      as_split new parent d first second linked_new (omega (arith, changed.no_fewer)) (ap (λ (n : Node). n.end) e ∙ is) ∙ ap (λ (n : Node). trees.Split n.block d (tree_at new first.number) (tree_at new second.number)) e ∙ ap (λ t. trees.Split block d (tree_at new first.number) t) same in
      climbed R took refused parent above before up
      (subst (λ t. R above t (tree_at new parent)) (sym (as_split nodes parent d first second linked there is))
      (subst (λ t. R above (trees.Split block d (tree_at nodes first.number) (tree_at nodes second.number)) t) (sym now) (took block d above _ _ _ here_holds)))
  climbed R took refused j history (at_second parent d first second above there is before is_child is_history) end holds =
      let block = (node_at nodes parent).block in
      let e = node_same parent d first second there is in
      let family = linked.children parent d first second there is in
      let h : IsEnd (Refused d ∷ after block above) here = subst (λ h. IsEnd h here) is_history end in
      let same : tree_at new first.number ≡ tree_at nodes first.number =
      apart_same first.number family.first_there (Took d ∷ after block above) (at_first parent d first second above there is before refl refl) (λ k. one_side d (after block above) here k h) in
      let up : IsEnd above here = end_of_after block above here (end_of_cons (Refused d) (after block above) here h) in
      let here_holds : R (Refused d ∷ after block above) (tree_at nodes second.number) (tree_at new second.number) = subst (λ h. R h (tree_at nodes second.number) (tree_at new second.number)) is_history (subst (λ c. R history (tree_at nodes c) (tree_at new c)) is_child holds) in
      let now : tree_at new parent ≡ trees.Split block d (tree_at nodes first.number) (tree_at new second.number) =
      as_split new parent d first second linked_new (omega (arith, changed.no_fewer)) (ap (λ (n : Node). n.end) e ∙ is) ∙ ap (λ (n : Node). trees.Split n.block d (tree_at new first.number) (tree_at new second.number)) e ∙ ap (λ t. trees.Split block d t (tree_at new second.number)) same in
      climbed R took refused parent above before up
      (subst (λ t. R above t (tree_at new parent)) (sym (as_split nodes parent d first second linked there is))
      (subst (λ t. R above (trees.Split block d (tree_at nodes first.number) (tree_at nodes second.number)) t) (sym now) (refused block d above _ _ _ here_holds)))

  -- what a subtree gains of a measure that adds over splits, the whole tree gains
  pub gained : (measure : trees.Tree → ℕ) → AddsOverSplits measure → (gain j : ℕ) (history : List Event) → Before nodes j history → IsEnd history here → measure (tree_at new j) ≡ measure (tree_at nodes j) + gain → measure (tree_of new) ≡ measure (tree_of nodes) + gain
  gained measure adds gain =
      climbed (λ history old now. measure now ≡ measure old + gain)
      (λ block d above old now other more. omega (arith, adds block d old other, adds block d now other, more))
      (λ block d above old now other more. omega (arith, adds block d other old, adds block d other now, more))

-- an open leaf's measure, where open leaves measure nothing
pub leaf_measure : (measure : trees.Tree → ℕ) → ((block : List Step) → measure (trees.Open block) ≡ 0) → (nodes : List Node) (i : ℕ) → IsLinked nodes → i < length nodes → IsFree nodes i → measure (tree_at nodes i) ≡ 0
leaf_measure measure none nodes i linked there free = ap measure (tree_at_is nodes i linked there ∙ ap (λ e. with_children (node_at nodes i).block e (tree_at nodes)) free) ∙ none (node_at nodes i).block

pub itself : (history : List Event) → IsEnd history history
unfolding IsEnd
itself history = ([], refl)

-- a split of an open leaf adds one
split_gains : (measure : trees.Tree → ℕ) → AddsOverSplits measure → ((block : List Step) → measure (trees.Open block) ≡ 0) → (nodes : List Node) (i : ℕ) (block : List Step) (d : Decision) → IsLinked nodes → i < length nodes → IsFree nodes i → length nodes + 2 ≤ 2 ^ 32 → ((history : List Event) × Before nodes i history) → measure (tree_of (split_behind_at nodes i block d)) ≡ measure (tree_of nodes) + 1
split_gains measure adds none nodes i block d linked there free room some =
    let new = split_behind_at nodes i block d in
    let changed = changed_by_split nodes i block d there free in
    let linked_new = linked_by_split nodes i block d linked there free room in
    let len = length-split_behind_at nodes i block d there in
    let is : (node_at new i).end ≡ split_end d (length nodes) = ap (λ (n : Node). n.end) (split_behind_at-same nodes i block d there) in
    let tree = ap measure (tree_at_is new i linked_new (omega (arith, len)) ∙ ap (λ e. with_children (node_at new i).block e (tree_at new)) is) ∙ adds (node_at new i).block d (tree_at new (length nodes)) (tree_at new (length nodes + 1)) in
    let left = leaf_measure measure none new (length nodes) linked_new (omega (arith, len)) (ap (λ (n : Node). n.end) (split_behind_at-first nodes i block d there)) in
    let right = leaf_measure measure none new (length nodes + 1) linked_new (omega (arith, len)) (ap (λ (n : Node). n.end) (split_behind_at-second nodes i block d there)) in
    gained nodes new i some.0 linked linked_new changed some.1 measure adds 1 i some.0 some.1 (itself some.0)
    (omega (arith, tree, left, right, leaf_measure measure none nodes i linked there free))

-- a closing adds what a closed leaf measures
close_gains : (measure : trees.Tree → ℕ) → AddsOverSplits measure → ((block : List Step) → measure (trees.Open block) ≡ 0) → (gain : ℕ) → ((block : List Step) → measure (trees.Closed block) ≡ gain) → (nodes : List Node) (i : ℕ) (block : List Step) → IsLinked nodes → i < length nodes → IsFree nodes i → ((history : List Event) × Before nodes i history) → measure (tree_of (close_at nodes i block)) ≡ measure (tree_of nodes) + gain
close_gains measure adds none gain closes nodes i block linked there free some =
    let new = close_at nodes i block in
    let changed = changed_by_close nodes i block there free in
    let linked_new = linked_by_close nodes i block linked there free in
    let len = length-close_at nodes i block there in
    let is : (node_at new i).end ≡ Shut = ap (λ (n : Node). n.end) (close_at-same nodes i block there) in
    let tree = ap measure (tree_at_is new i linked_new (omega (arith, len)) ∙ ap (λ e. with_children (node_at new i).block e (tree_at new)) is) ∙ closes (node_at new i).block in
    gained nodes new i some.0 linked linked_new changed some.1 measure adds gain i some.0 some.1 (itself some.0)
    (omega (arith, tree, leaf_measure measure none nodes i linked there free))

pub count_adds : AddsOverSplits count
count_adds block d first second = refl

pub splits_adds : AddsOverSplits splits
splits_adds block d first second = refl

pub count_split_behind : CountSplitBehindLaw
count_split_behind = split_gains count count_adds (λ block. refl)

pub count_split : CountSplitLaw
count_split nodes i d = count_split_behind nodes i (node_at nodes i).block d

pub count_close : CountCloseLaw
count_close = close_gains count count_adds (λ block. refl) 1 (λ block. refl)

pub splits_split_behind : SplitsSplitBehindLaw
splits_split_behind = split_gains splits splits_adds (λ block. refl)

pub splits_split : SplitsSplitLaw
splits_split nodes i d = splits_split_behind nodes i (node_at nodes i).block d

pub splits_close : SplitsCloseLaw
splits_close nodes i block linked there free some =
    let e = close_gains splits splits_adds (λ block. refl) 0 (λ block. refl) nodes i block linked there free some in
    omega (arith, e)

-- The way up the tree along a path.
use Rattle.std.proofs.Common.{◌≡◌, ◌↔◌, ℕ, ◌<◌, inl, inr, List, [], ◌∷◌, length, refl, sym, ap, ◌∙◌, subst, Option, Some, None, MatchOption}
use Rattle.cfn_model.specs.declared.step.Event.{Event}
use Rattle.cfn_model.specs.declared.step.Event.TheVariants.{Took, Refused}
use Rattle.cfn_model.specs.Steps.{after}
use Rattle.cfn_proof.specs.declared.path.Side.{Side}
use Rattle.cfn_proof.specs.declared.path.Side.TheVariants.{Holds, Fails}
use Rattle.cfn_proof.specs.declared.tree.NodeId.{NodeId}
use Rattle.cfn_proof.specs.declared.tree.Node.{Node}
use Rattle.cfn_proof.specs.Legs.{event_of}
use Rattle.cfn_proof.specs.Nodes.{node_at, IsLinked, Before, at_root}
use Rattle.cfn_proof.specs.Local.{BeforeOnceLaw}
use Rattle.cfn_proof.proofs.CallerLemmas.{side_of, same_above}
use Rattle.cfn_leaves.specs.Ways.{IsPathOf, IsSide}

same_head : {a b : Event} {xs ys : List Event} → a ∷ xs ≡ b ∷ ys → (a ≡ b) × (xs ≡ ys)
same_head h = ((cc), (cc))

no_cons : {a : Event} {xs : List Event} {C : Type 0} → [] ≡ a ∷ xs → C
no_cons h = absurd (cc)

none_some : {o : Option NodeId} {up : NodeId} {C : Type 0} → o ≡ None → o ≡ Some up → C
none_some e f = absurd (cc)

module _ (nodes : List Node) (once : BeforeOnceLaw) (linked : IsLinked nodes) (i : ℕ) where
  -- what stands before a child ends with a side of the parent's split
  record Climbed (up : NodeId) (above : List Event) : Type 0 where
    pub event : Event
    pub rest : List Event
    pub is : above ≡ event ∷ rest
    pub of : IsPathOf nodes up.number rest

  climbed : (up : NodeId) (above : List Event) → (node_at nodes i).parent ≡ Some up → Before nodes i above → Climbed up above
  climbed up above parent before = elim (side_of nodes i above linked before) [
    | inl root ↦ none_some (ap (λ m. (node_at nodes m).parent) root.0 ∙ linked.root) parent
    | inr s ↦
        (let at : s.parent ≡ up.number = (let k : Some (record { number = s.parent }) ≡ Some up = sym s.knows ∙ parent in cc) in
        let of : IsPathOf nodes up.number (after (node_at nodes s.parent).block s.above) = record { above = s.above; before = subst (λ p. Before nodes p s.above) at s.before; is = ap (λ p. after (node_at nodes p).block s.above) at } in
        elim s.side [
          | inl left ↦ record { event = Took s.d; rest = after (node_at nodes s.parent).block s.above; is = left.1; of = of }
          | inr right ↦ record { event = Refused s.d; rest = after (node_at nodes s.parent).block s.above; is = right.1; of = of }
        ])
  ]

  ends_above : (up : NodeId) (path : List Event) → (node_at nodes i).parent ≡ Some up → IsPathOf nodes up.number path → MatchOption (node_at nodes i).parent (path ≡ []) (λ up. IsPathOf nodes up.number path)
  ends_above up path parent of = subst (λ (o : Option NodeId). MatchOption o (path ≡ []) (λ up. IsPathOf nodes up.number path)) (sym parent) of

  pub no_side : (path : List Event) (up : NodeId) → (node_at nodes i).parent ≡ Some up → IsSide nodes i None → IsPathOf nodes i path → ⊥
  no_side path up parent sides of =
      let c = climbed up of.above parent of.before in
      let none = sides c.rest (ends_above up c.rest parent c.of) in
      no_cons (once nodes i [] of.above linked none.1 of.before ∙ c.is)

  -- the path ends with the side and the block where what is above them is the parent's path
  same_side : (path rest : List Event) (side : Side) (up : NodeId) → path ≡ after (node_at nodes i).block (event_of side ∷ rest) → (node_at nodes i).parent ≡ Some up → IsSide nodes i (Some side) → IsPathOf nodes i path ↔ IsPathOf nodes up.number rest
  same_side path rest side up is parent sides = (
    λ of. (let c = climbed up of.above parent of.before in
        let above = same_above (node_at nodes i).block of.above (event_of side ∷ rest) (sym of.is ∙ is) in
        subst (IsPathOf nodes up.number) (same_head (sym c.is ∙ above)).1 c.of),
    λ of. record {
      above = event_of side ∷ rest;
      before = sides rest (ends_above up rest parent of);
      is = is;
    },
  )

  other_side : (path : List Event) (side : Side) (up : NodeId) → ((above : List Event) → path ≡ after (node_at nodes i).block (event_of side ∷ above) → ⊥) → (node_at nodes i).parent ≡ Some up → IsSide nodes i (Some side) → IsPathOf nodes i path → ⊥
  other_side path side up none parent sides of =
      let c = climbed up of.above parent of.before in
      let here = once nodes i (event_of side ∷ c.rest) of.above linked (sides c.rest (ends_above up c.rest parent c.of)) of.before in
      none c.rest (of.is ∙ ap (after (node_at nodes i).block) (sym here))

  pub by_side : (path : List Event) (side : Side) (up : NodeId) (r : Option (List Event)) → (node_at nodes i).parent ≡ Some up → IsSide nodes i (Some side) →
      MatchOption r ((above : List Event) → path ≡ after (node_at nodes i).block (event_of side ∷ above) → ⊥) (λ above. path ≡ after (node_at nodes i).block (event_of side ∷ above)) →
      MatchOption r (IsPathOf nodes i path → ⊥) (λ rest. IsPathOf nodes i path ↔ IsPathOf nodes up.number rest)
  by_side path side up None parent sides none = other_side path side up none parent sides
  by_side path side up (Some rest) parent sides is = same_side path rest side up is parent sides

  -- at the root nothing stands before the block
  pub at_top : (path : List Event) → i < length nodes → (node_at nodes i).parent ≡ None → (path ≡ after (node_at nodes i).block []) ↔ IsPathOf nodes i path
  at_top path there parent =
      let root = linked.only_root i there parent in (
        λ is. record { above = []; before = at_root root refl; is = is },
        λ of. of.is ∙ ap (after (node_at nodes i).block) (once nodes i of.above [] linked of.before (at_root root refl)),
      )

-- Paths of nodes, and the way down to one.
use Rattle.std.proofs.Common.{◌≡◌, ℕ, ◌<◌, ◌⊎◌, inl, inr, List, [], ◌∷◌, ◌++◌, length, reverse, refl, sym, ap, ◌∙◌, subst, arith, Option, Some, None, MatchOption, if◌then◌else◌, true, false, Bool}
use Rattle.std.proofs.lemmas.List.{reverse-append}
use Rattle.cfn_model.specs.declared.step.Decision.{Decision}
use Rattle.cfn_model.specs.declared.step.Event.{Event}
use Rattle.cfn_model.specs.declared.step.Event.TheVariants.{Took, Refused}
use Rattle.cfn_model.specs.Steps.{after}
use Rattle.cfn_proof.specs.declared.path.Side.{Side}
use Rattle.cfn_proof.specs.declared.path.Side.TheVariants.{Holds, Fails}
use Rattle.cfn_proof.specs.Legs.{event_of}
use Rattle.cfn_proof.specs.declared.tree.NodeId.{NodeId}
use Rattle.cfn_proof.specs.declared.tree.End.TheVariants.{Free, Shut, Split}
use Rattle.cfn_proof.specs.declared.tree.Node.{Node}
use Rattle.cfn_proof.specs.Nodes.{node_at, IsLinked, Before, at_root, at_first, at_second}
use Rattle.cfn_proof.proofs.CallerLemmas.{named}
use Rattle.cfn_leaves.specs.Ways.{IsPathOf, EndsAbove, IsSide, Goes}

parts : {d c : Decision} {first second third fourth : NodeId} → Split d first second ≡ Split c third fourth → (d ≡ c) × (first ≡ third) × (second ≡ fourth)
parts h = ((cc), (cc), (cc))

-- the side that a node is
pub root_side : (nodes : List Node) (i : ℕ) → IsLinked nodes → i < length nodes → (node_at nodes i).parent ≡ None → IsSide nodes i None
root_side nodes i linked there none = λ path ends. (subst (λ (o : Option NodeId). MatchOption o (path ≡ []) (λ up. IsPathOf nodes up.number path)) none ends, at_root (linked.only_root i there none) refl)

by_test : (nodes : List Node) (i : ℕ) (up : NodeId) (d : Decision) (first second : NodeId) (path : List Event) → up.number < length nodes → (node_at nodes up.number).end ≡ Split d first second →
    IsPathOf nodes up.number path → (b : Bool) → (b ≡ true → i ≡ first.number) → (b ≡ false → i ≡ second.number) → Before nodes i (event_of (if b then Holds d else Fails d) ∷ path)
by_test nodes i up d first second path there is of true one two = at_first up.number d first second of.above there is of.before (one refl) (ap (λ p. Took d ∷ p) of.is)
by_test nodes i up d first second path there is of false one two = at_second up.number d first second of.above there is of.before (two refl) (ap (λ p. Refused d ∷ p) of.is)

pub split_side : (nodes : List Node) (i : ℕ) (up : NodeId) (d : Decision) (first second : NodeId) (b : Bool) → IsLinked nodes → i < length nodes → (node_at nodes i).parent ≡ Some up → (node_at nodes up.number).end ≡ Split d first second →
    (b ≡ true → first.number ≡ i) → (b ≡ false → first.number ≡ i → ⊥) → IsSide nodes i (Some (if b then Holds d else Fails d))
split_side nodes i up d first second b linked there parent is one other = λ path ends.
    let knows = linked.parents i up there parent in
    let of = subst (λ (o : Option NodeId). MatchOption o (path ≡ []) (λ up. IsPathOf nodes up.number path)) parent ends in
    let n = named (node_at nodes up.number).end i knows.1 in
    let same = parts (sym is ∙ n.3) in
    let two : b ≡ false → i ≡ second.number = λ h. elim n.4 [
      | inl left ↦ absurd (other h (ap (λ (n : NodeId). n.number) same.1 ∙ left))
      | inr right ↦ sym (ap (λ (n : NodeId). n.number) same.2 ∙ right)
    ] in
    by_test nodes i up d first second path (omega (arith, there, knows.0)) is of b (λ h. sym (one h)) two

-- a parent is a split
pub no_leaf : (nodes : List Node) (i : ℕ) (up : NodeId) → IsLinked nodes → i < length nodes → (node_at nodes i).parent ≡ Some up → ((node_at nodes up.number).end ≡ Free) ⊎ ((node_at nodes up.number).end ≡ Shut) → ⊥
no_leaf nodes i up linked there parent leaf =
    let n = named (node_at nodes up.number).end i (linked.parents i up there parent).1 in
    elim leaf [
      | inl h ↦ (let k : Free ≡ Split n.0 n.1 n.2 = sym h ∙ n.3 in cc)
      | inr h ↦ (let k : Shut ≡ Split n.0 n.1 n.2 = sym h ∙ n.3 in cc)
    ]

pub parent_there : (nodes : List Node) (i : ℕ) (up : NodeId) → IsLinked nodes → i < length nodes → (node_at nodes i).parent ≡ Some up → up.number < length nodes
parent_there nodes i up linked there parent = omega (arith, there, (linked.parents i up there parent).0)

-- the way goes one node up
pub goes_up : (nodes : List Node) (i at : ℕ) (up : NodeId) (way new : List NodeId) → IsLinked nodes → at < length nodes → (node_at nodes at).parent ≡ Some up → new ≡ way ++ up ∷ [] →
    ((path : List Event) → EndsAbove nodes at path → Goes nodes i path (reverse way)) → (path : List Event) → EndsAbove nodes up.number path → Goes nodes i path (reverse new)
goes_up nodes i at up way new linked there parent is goes path ends =
    let rest : (more : List Event) → IsPathOf nodes up.number more → Goes nodes i more (reverse way) =
    λ more of. goes more (subst (λ (o : Option NodeId). MatchOption o (more ≡ []) (λ up. IsPathOf nodes up.number more)) (sym parent) of) in
    subst (Goes nodes i path) (sym (ap reverse is ∙ reverse-append way (up ∷ []))) (parent_there nodes at up linked there parent, ends, rest)

-- the path of a node, from that of its parent
pub entered : (nodes : List Node) (i : ℕ) (path new : List Event) (side : Side) → IsSide nodes i (Some side) → EndsAbove nodes i path → new ≡ after (node_at nodes i).block (event_of side ∷ path) → IsPathOf nodes i new
entered nodes i path new side sides ends is = record { above = event_of side ∷ path; before = sides path ends; is = is }

pub begun : (nodes : List Node) (i : ℕ) (path new : List Event) → IsSide nodes i None → EndsAbove nodes i path → new ≡ after (node_at nodes i).block [] → IsPathOf nodes i new
begun nodes i path new sides ends is = record { above = []; before = (sides path ends).1; is = is }

-- A walk over the open leaves.
use Rattle.std.proofs.Common.{◌≡◌, ℕ, zero, suc, ◌+◌, ◌<◌, ◌≤◌, List, [], ◌∷◌, ◌++◌, length, reverse, refl, sym, ap, ap₂, ◌∙◌, subst, arith, append_assoc, append-nil, length-append}
use Rattle.std.proofs.lemmas.List.{reverse-append, nil_from_length}
use Rattle.cfn_model.specs.declared.step.Step.{Step}
use Rattle.cfn_model.specs.declared.step.Decision.{Decision}
use Rattle.cfn_model.specs.declared.step.Event.{Event}
use Rattle.cfn_model.specs.declared.step.Event.TheVariants.{Did}
use Rattle.cfn_model.specs.Network.{Network}
use Rattle.cfn_model.specs.Sums.{floor}
use Rattle.cfn_model.specs.Steps.{after}
use Rattle.cfn_model.specs.Tree.{count}
use Rattle.cfn_proof.specs.declared.tree.NodeId.{NodeId}
use Rattle.cfn_proof.specs.declared.tree.End.{End}
use Rattle.cfn_proof.specs.declared.tree.End.TheVariants.{Free, Shut, Split}
use Rattle.cfn_proof.specs.declared.tree.Node.{Node}
use Rattle.cfn_proof.specs.Nodes.{node_at, tree_at, tree_of, with_children, IsLinked}
use Rattle.cfn_proof.proofs.CallerLemmas.{tree_at_is}
use Rattle.cfn_leaves.specs.declared.walk.Spot.{Spot}
use Rattle.cfn_leaves.specs.Walked.{lifts, spots_with, spots_at, spots_of, spots_left, made_left, IsOnWay}

-- the floor behind a block
pub floor_after : (P : Network) (block : List Step) (history : List Event) → floor P (after block history) ≡ floor P history + lifts block
floor_after P [] history = omega arith
floor_after P (step ∷ block) history = omega (arith, floor_after P block (Did step ∷ history))

-- the leaves from a node on do not depend on how deep the tree may be
module _ (nodes : List Node) (linked : IsLinked nodes) where
  same_by : (deep more i low : ℕ) → i < length nodes → length nodes ≤ i + suc deep → length nodes ≤ i + suc more →
      ((c l : ℕ) → c < length nodes → length nodes ≤ c + deep → length nodes ≤ c + more → spots_at nodes deep c l ≡ spots_at nodes more c l) →
      (e : End) → (node_at nodes i).end ≡ e → spots_with i low (node_at nodes i).end (spots_at nodes deep) ≡ spots_with i low (node_at nodes i).end (spots_at nodes more)
  same_by deep more i low there far far' same Free is = ap (λ e. spots_with i low e (spots_at nodes deep)) is ∙ sym (ap (λ e. spots_with i low e (spots_at nodes more)) is)
  same_by deep more i low there far far' same Shut is = ap (λ e. spots_with i low e (spots_at nodes deep)) is ∙ sym (ap (λ e. spots_with i low e (spots_at nodes more)) is)
  same_by deep more i low there far far' same (Split d first second) is =
      let family = linked.children i d first second there is in
      ap (λ e. spots_with i low e (spots_at nodes deep)) is
      ∙ ap₂ (λ f s. f ++ s)
      (same first.number low family.first_there (omega (arith, far, family.first_behind)) (omega (arith, far', family.first_behind)))
      (same second.number low family.second_there (omega (arith, far, family.second_behind)) (omega (arith, far', family.second_behind)))
      ∙ sym (ap (λ e. spots_with i low e (spots_at nodes more)) is)

  spots_same : (deep more i low : ℕ) → i < length nodes → length nodes ≤ i + deep → length nodes ≤ i + more → spots_at nodes deep i low ≡ spots_at nodes more i low
  spots_same zero more i low there far far' = absurd (omega (arith, there, far))
  spots_same (suc deep) zero i low there far far' = absurd (omega (arith, there, far'))
  spots_same (suc deep) (suc more) i low there far far' =
      same_by deep more i (low + lifts (node_at nodes i).block) there far far' (λ c l h f g. spots_same deep more c l h f g) (node_at nodes i).end refl

  pub spots_is : (i low : ℕ) → i < length nodes → spots_at nodes (length nodes) i low ≡ spots_with i (low + lifts (node_at nodes i).block) (node_at nodes i).end (spots_at nodes (length nodes))
  spots_is i low there = spots_same (length nodes) (suc (length nodes)) i low there (omega arith) (omega arith)

  end_is : (i : ℕ) (e : End) → i < length nodes → (node_at nodes i).end ≡ e → tree_at nodes i ≡ with_children (node_at nodes i).block e (tree_at nodes)
  end_is i e there is = tree_at_is nodes i linked there ∙ ap (λ e. with_children (node_at nodes i).block e (tree_at nodes)) is

  -- an open leaf
  pub came_by_leaf : (whole spots : List Spot) (last made low : ℕ) (at : Spot) (ahead : List Spot) → IsOnWay nodes whole last spots made (at ∷ ahead) → (node_at nodes at.node.number).end ≡ Free → low ≡ at.floor + lifts (node_at nodes at.node.number).block →
      IsOnWay nodes whole last (spots ++ record { node = at.node; floor = low } ∷ []) made ahead
  came_by_leaf whole spots last made low at ahead way is low_is =
      let i = at.node.number in
      let own : spots_at nodes (length nodes) i at.floor ≡ record { node = at.node; floor = low } ∷ [] =
      spots_is i at.floor way.there.0 ∙ ap (λ e. spots_with i (at.floor + lifts (node_at nodes i).block) e (spots_at nodes (length nodes))) is ∙ ap (λ f. record { node = at.node; floor = f } ∷ []) (sym low_is) in
      let none : count (tree_at nodes i) ≡ 0 = ap count (end_is i Free way.there.0 is) in
      record {
        there = way.there.1;
        all = append_assoc spots (record { node = at.node; floor = low } ∷ []) (spots_left nodes ahead) ∙ ap (λ l. spots ++ (l ++ spots_left nodes ahead)) (sym own) ∙ way.all;
        count = omega (arith, way.count, none);
      }

  -- a closed leaf
  pub came_by_shut : (whole spots : List Spot) (last made : ℕ) (at : Spot) (ahead : List Spot) → IsOnWay nodes whole last spots made (at ∷ ahead) → (node_at nodes at.node.number).end ≡ Shut → IsOnWay nodes whole last spots (made + 1) ahead
  came_by_shut whole spots last made at ahead way is =
      let i = at.node.number in
      let own : spots_at nodes (length nodes) i at.floor ≡ [] = spots_is i at.floor way.there.0 ∙ ap (λ e. spots_with i (at.floor + lifts (node_at nodes i).block) e (spots_at nodes (length nodes))) is in
      let one : count (tree_at nodes i) ≡ 1 = ap count (end_is i Shut way.there.0 is) in
      record {
        there = way.there.1;
        all = ap (λ l. spots ++ (l ++ spots_left nodes ahead)) (sym own) ∙ way.all;
        count = omega (arith, way.count, one);
      }

  -- a split
  pub came_by_split : (whole spots : List Spot) (last made low : ℕ) (at : Spot) (ahead : List Spot) (d : Decision) (first second : NodeId) → IsOnWay nodes whole last spots made (at ∷ ahead) → (node_at nodes at.node.number).end ≡ Split d first second →
      low ≡ at.floor + lifts (node_at nodes at.node.number).block → IsOnWay nodes whole last spots (made + 1) (record { node = first; floor = low } ∷ record { node = second; floor = low } ∷ ahead)
  came_by_split whole spots last made low at ahead d first second way is low_is =
      let i = at.node.number in
      let family = linked.children i d first second way.there.0 is in
      let one = spots_at nodes (length nodes) first.number low in
      let two = spots_at nodes (length nodes) second.number low in
      let own : spots_at nodes (length nodes) i at.floor ≡ one ++ two =
      spots_is i at.floor way.there.0 ∙ ap (λ e. spots_with i (at.floor + lifts (node_at nodes i).block) e (spots_at nodes (length nodes))) is
      ∙ ap (λ f. spots_at nodes (length nodes) first.number f ++ spots_at nodes (length nodes) second.number f) (sym low_is) in
      let sum : count (tree_at nodes i) ≡ 1 + (count (tree_at nodes first.number) + count (tree_at nodes second.number)) = ap count (end_is i (Split d first second) way.there.0 is) in
      record {
        there = (family.first_there, (family.second_there, way.there.1));
        all = ap (λ l. spots ++ l) (sym (append_assoc one two (spots_left nodes ahead)) ∙ ap (λ l. l ++ spots_left nodes ahead) (sym own)) ∙ way.all;
        count = omega (arith, way.count, sum);
      }

  pub some_made : (i : ℕ) → i < length nodes → ((node_at nodes i).end ≡ Free → ⊥) → 1 ≤ count (tree_at nodes i)
  some_made i there closed = by_end (node_at nodes i).end refl where
    by_end : (e : End) → (node_at nodes i).end ≡ e → 1 ≤ count (tree_at nodes i)
    by_end Free is = absurd (closed is)
    by_end Shut is = let one : count (tree_at nodes i) ≡ 1 = ap count (end_is i Shut there is) in omega (arith, one)
    by_end (Split d first second) is = let sum : count (tree_at nodes i) ≡ 1 + (count (tree_at nodes first.number) + count (tree_at nodes second.number)) = ap count (end_is i (Split d first second) there is) in omega (arith, sum)

pub way_begins : (nodes : List Node) (low made : ℕ) (spots ahead : List Spot) → IsLinked nodes → spots ≡ [] → made ≡ 0 → ahead ≡ record { node = record { number = 0 }; floor = low } ∷ [] →
    IsOnWay nodes (spots_of nodes low) (count (tree_of nodes)) spots made (reverse ahead)
way_begins nodes low made spots ahead linked none nothing one =
    subst (λ a. IsOnWay nodes (spots_of nodes low) (count (tree_of nodes)) spots made (reverse a)) (sym one)
    (subst (λ s. IsOnWay nodes (spots_of nodes low) (count (tree_of nodes)) s made (record { node = record { number = 0 }; floor = low } ∷ [])) (sym none)
    (record { there = (linked.some, tt); all = append-nil (spots_of nodes low); count = omega (arith, nothing) }))

pub way_ends : (nodes : List Node) (whole spots : List Spot) (last made : ℕ) (ahead : List Spot) → ahead ≡ [] → IsOnWay nodes whole last spots made (reverse ahead) → (spots ≡ whole) × (made ≡ last)
way_ends nodes whole spots last made ahead none way =
    let end : IsOnWay nodes whole last spots made [] = subst (λ a. IsOnWay nodes whole last spots made (reverse a)) none way in
    (sym (append-nil spots) ∙ end.all, omega (arith, end.count))

-- the next node is the last of the list
pub popped : (nodes : List Node) (whole spots : List Spot) (last made : ℕ) (ahead rest : List Spot) (at : Spot) → ahead ≡ rest ++ at ∷ [] → IsOnWay nodes whole last spots made (reverse ahead) → IsOnWay nodes whole last spots made (at ∷ reverse rest)
popped nodes whole spots last made ahead rest at is way = subst (IsOnWay nodes whole last spots made) (ap reverse is ∙ reverse-append rest (at ∷ [])) way

pub fewer : (nodes : List Node) (whole spots spots' : List Spot) (last made made' : ℕ) (ahead ahead' : List Spot) → IsOnWay nodes whole last spots made ahead → IsOnWay nodes whole last spots' made' ahead' → length spots' + made' ≡ length spots + made + 1 →
    length (spots_left nodes ahead') + made_left nodes ahead' < length (spots_left nodes ahead) + made_left nodes ahead
fewer nodes whole spots spots' last made made' ahead ahead' way way' one =
    let all = ap length way.all in let all' = ap length way'.all in
    let sum = length-append spots (spots_left nodes ahead) in let sum' = length-append spots' (spots_left nodes ahead') in
    omega (arith, all, all', sum, sum', way.count, way'.count, one)

pub none_there : (items : List Spot) (len : ℕ) → len ≡ length items → len ≡ 0 → items ≡ []
none_there items len is nothing = nil_from_length items (sym is ∙ nothing)

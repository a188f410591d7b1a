-- What a ranking keeps where a leaf is split or closed.
use Rattle.std.proofs.Common.{◌≡◌, ◌≢◌, ℕ, zero, suc, ◌+◌, ◌<◌, ◌≤◌, ◌^◌, inl, inr, List, [], ◌∷◌, ◌++◌, length, Option, None, Some, refl, sym, ap, ◌∙◌, subst, arith, length-append}
use Rattle.std.proofs.lemmas.Bool.{cases_eq, cases_lt}
use Rattle.std.proofs.lemmas.List.{get_or_append_left}
use Rattle.std.specs.Prelude.{slice_index_or}
use Rattle.cfn_model.specs.declared.step.Step.{Step}
use Rattle.cfn_model.specs.declared.step.Decision.{Decision}
use Rattle.cfn_model.specs.declared.step.Event.{Event}
use Rattle.cfn_model.specs.Network.{Network}
use Rattle.cfn_model.specs.Certificate.{Solution}
use Rattle.cfn_model.specs.Sums.{floor}
use Rattle.cfn_model.specs.Steps.{after}
use Rattle.cfn_model.specs.Paths.{TameBlock}
use Rattle.cfn_model.proofs.CallerLemmas.{small_took, small_refused}
use Rattle.cfn_proof.specs.declared.tree.NodeId.{NodeId}
use Rattle.cfn_proof.specs.declared.tree.Node.{Node}
use Rattle.cfn_proof.specs.Nodes.{node_at, IsLinked, IsFree, Before, split_behind_at, close_at}
use Rattle.cfn_proof.specs.Local.{ValidNode, StrictNode}
use Rattle.cfn_proof.proofs.CallerLemmas.{before_close, before_some, before_split_behind, count_close, count_split_behind, splits_close, splits_split_behind, length-close_at, close_at-same, close_at-other, length-split_behind_at, split_behind_at-same, split_behind_at-other, split_behind_at-first, split_behind_at-second, valid_split_behind, strict_split_behind}
use Rattle.cfn_ranking.specs.Trees.{number_at}
use Rattle.cfn_ranking.specs.Ranked.{Ranked, floor_at, IsFound, IsLeafOf, HasLeaf, IsToExpand, Waits, TameNodes, IsKept}
use Rattle.cfn_ranking.specs.Changes.{CanDivide, MayClose, divided}
use Rattle.cfn_ranking.proofs.Nodes.{free_split, free_shut, kept_by_close, kept_by_split}
use Rattle.cfn_ranking.proofs.Paths.{small_end}
use Rattle.cfn_ranking.proofs.Lists.{leaves_moved}

-- what is put twice behind a list
two_behind : {T : Type 0} (xs : List T) (x d : T) (j : ℕ) → length xs ≤ j → j < length xs + 2 → slice_index_or (xs ++ x ∷ x ∷ []) j d ≡ x
two_behind [] x d zero late h = refl
two_behind [] x d (suc zero) late h = refl
two_behind [] x d (suc (suc j)) late h = absurd (omega (arith, h))
two_behind (y ∷ xs) x d zero late h = absurd (omega (arith, late))
two_behind (y ∷ xs) x d (suc j) late h = two_behind xs x d j (omega (arith, late)) (omega (arith, h))

-- a leaf that is closed, or split, is none that waits
pub closed_waits : {e : Option ℕ} {m : ℕ} → e ≡ None → e ≡ Some m → ⊥
closed_waits e f = cc

lifted_floor : (n : ℕ) → n ≡ 0 + n
lifted_floor n = omega arith

-- an open leaf is split
module _ (P : Network) (r : Ranked) (i : ℕ) (block : List Step) (d : Decision) (low : ℕ) (kept : IsKept P r) (waits : Waits r i) (can : (history : List Event) → Before r.nodes i history → CanDivide P history r.threshold block d low) (linked_new : IsLinked (split_behind_at r.nodes i block d)) where
  abbrev new : List Node
  new = split_behind_at r.nodes i block d

  longer : length new ≡ length r.nodes + 2
  longer = length-split_behind_at r.nodes i block d waits.there

  some : (history : List Event) × Before r.nodes i history
  some = before_some r.nodes i kept.linked waits.there

  old_floor : (j : ℕ) → j < length r.nodes → floor_at (r.floors ++ low ∷ low ∷ []) j ≡ floor_at r.floors j
  old_floor j h = get_or_append_left r.floors (low ∷ low ∷ []) 0 j (omega (arith, h, kept.floors))

  old_number : (j : ℕ) → j < length r.nodes → number_at (r.numbers ++ None ∷ None ∷ []) j ≡ number_at r.numbers j
  old_number j h = get_or_append_left r.numbers (None ∷ None ∷ []) None j (omega (arith, h, kept.numbers))

  new_floor : (j : ℕ) → length r.nodes ≤ j → j < length new → floor_at (r.floors ++ low ∷ low ∷ []) j ≡ low
  new_floor j late h = two_behind r.floors low 0 j (omega (arith, late, kept.floors)) (omega (arith, h, longer, kept.floors))

  new_number : (j : ℕ) → length r.nodes ≤ j → j < length new → number_at (r.numbers ++ None ∷ None ∷ []) j ≡ None
  new_number j late h = two_behind r.numbers None None j (omega (arith, late, kept.numbers)) (omega (arith, h, longer, kept.numbers))

  -- a leaf that was there and is open is another one
  other_leaf : (j : ℕ) → j < length r.nodes → IsFree new j → (j ≢ i) × (node_at new j ≡ node_at r.nodes j)
  other_leaf j h free =
      elim (cases_eq j i) [
        | inl same ↦ absurd (free_split (ap (λ m. (node_at new m).end) (sym same) ∙ free) (ap (λ (n : Node). n.end) (split_behind_at-same r.nodes i block d waits.there)))
        | inr other ↦ (other, split_behind_at-other r.nodes i block d waits.there j h other)
      ]

  before_was : (j : ℕ) (history : List Event) → j < length r.nodes → Before new j history → Before r.nodes j history
  before_was j history h before = (before_split_behind r.nodes i block d j history kept.linked waits.there waits.free before).0 h

  -- the floor behind a new child
  child_floor : (j : ℕ) (history : List Event) → length r.nodes ≤ j → j < length new → Before new j history → low ≡ floor P history
  child_floor j history late h before =
      let ways = before_split_behind r.nodes i block d j history kept.linked waits.there waits.free before in
      elim (cases_eq j (length r.nodes)) [
        | inl first ↦
            let way = ways.1 first in
            (can way.above way.before).floor_is ∙ lifted_floor (floor P (after block way.above)) ∙ ap (floor P) (sym way.is)
        | inr other ↦
            let way = ways.2 (omega (arith, h, late, other, longer)) in
            (can way.above way.before).floor_is ∙ lifted_floor (floor P (after block way.above)) ∙ ap (floor P) (sym way.is)
      ]

  child_block : (j : ℕ) → length r.nodes ≤ j → j < length new → (node_at new j).block ≡ []
  child_block j late h =
      elim (cases_eq j (length r.nodes)) [
        | inl first ↦ ap (λ m. (node_at new m).block) first ∙ ap (λ (n : Node). n.block) (split_behind_at-first r.nodes i block d waits.there)
        | inr other ↦
            let second : j ≡ length r.nodes + 1 = omega (arith, h, late, other, longer) in
            ap (λ m. (node_at new m).block) second ∙ ap (λ (n : Node). n.block) (split_behind_at-second r.nodes i block d waits.there)
      ]

  waiting_now : (j : ℕ) → Waits (divided r i block d low) j → IsToExpand P (divided r i block d low) j
  waiting_now j waits_now =
      elim (cases_lt j (length r.nodes)) [
        | inl old ↦
            let other = other_leaf j old waits_now.free in
            let was = kept.waiting j (record { there = old; free = ap (λ (n : Node). n.end) (sym other.1) ∙ waits_now.free; unlisted = sym (old_number j old) ∙ waits_now.unlisted }) in
            record {
              empty = ap (λ (n : Node). n.block) other.1 ∙ was.empty;
              floor_is = λ history before. old_floor j old ∙ was.floor_is history (before_was j history old before);
            }
        | inr late ↦ record {
          empty = child_block j late waits_now.there;
          floor_is = λ history before. new_floor j late waits_now.there ∙ child_floor j history late waits_now.there before;
        }
      ]

  listed_now : (j m : ℕ) → j < length new → IsFree new j → number_at (r.numbers ++ None ∷ None ∷ []) j ≡ Some m → HasLeaf r.leaves j
  listed_now j m h free is =
      elim (cases_lt j (length r.nodes)) [
        | inl old ↦ (let other = other_leaf j old free in kept.listed j m old (ap (λ (n : Node). n.end) (sym other.1) ∙ free) (sym (old_number j old) ∙ is))
        | inr late ↦ absurd (closed_waits (new_number j late h) is)
      ]

  moved : (s : Solution) (leaf : NodeId) → IsLeafOf P r s leaf → IsLeafOf P (divided r i block d low) s leaf
  moved s leaf is = record {
    there = (let t = is.there in omega (arith, t, longer));
    numbered = λ none. is.numbered (sym (old_number leaf.number is.there) ∙ none);
    found = λ history free before.
        let other = other_leaf leaf.number is.there free in
        subst (λ (n : Node). IsFound P s (after n.block history)) (sym other.1) (is.found history (ap (λ (n : Node). n.end) (sym other.1) ∙ free) (before_was leaf.number history is.there before));
  }

  tame_now : TameNodes P new
  tame_now = record {
    each = kept_by_split (λ history n. TameBlock P history n.block) r.nodes i block kept.linked waits.there waits.free kept.tame.each d
        (λ history before. (can history before).runs.tame)
        (λ above before. small_took P (after block above) d (small_end P block above (can above before).runs.tame))
        (λ above before. small_refused P (after block above) d (small_end P block above (can above before).runs.tame));
  }

  pub keeps_divided : IsKept P (divided r i block d low)
  keeps_divided =
      let one = can some.0 some.1 in
      let room : length r.nodes + 2 ≤ 2 ^ 32 = omega (arith, longer, linked_new.few) in
      let more = count_split_behind r.nodes i block d kept.linked waits.there waits.free room some in
      let more_splits = splits_split_behind r.nodes i block d kept.linked waits.there waits.free room some in
      record {
        linked = linked_new;
        floors = length-append r.floors (low ∷ low ∷ []) ∙ ap (λ n. n + 2) kept.floors ∙ sym longer;
        numbers = length-append r.numbers (None ∷ None ∷ []) ∙ ap (λ n. n + 2) kept.numbers ∙ sym longer;
        waiting = waiting_now;
        listed = listed_now;
        valid = valid_split_behind P r.nodes r.threshold i block d kept.linked waits.there waits.free kept.valid (λ history before. (can history before).runs.run) one.decision;
        strict = strict_split_behind P r.nodes i block d kept.linked waits.there waits.free kept.strict (λ history before. (can history before).strict);
        tame = tame_now;
        leaves = leaves_moved P r (divided r i block d low) moved r.list r.leaves kept.leaves;
        solutions = kept.solutions;
        ordered = kept.ordered;
        within = kept.within;
        below = kept.below;
        some = kept.some;
        few = kept.few;
        expanded = (let e = kept.expanded in omega (arith, more_splits, e));
        counted = (let c = kept.counted in omega (arith, more, c));
      }

-- an open leaf is closed, and counts for one or for nothing
module _ (P : Network) (r : Ranked) (i : ℕ) (block : List Step) (spent : ℕ) (kept : IsKept P r) (there : i < length r.nodes) (free : IsFree r.nodes i) (may : (history : List Event) → Before r.nodes i history → MayClose P history r.threshold block) (linked_new : IsLinked (close_at r.nodes i block)) where
  abbrev shut_nodes : List Node
  shut_nodes = close_at r.nodes i block

  abbrev pub shut_ranked : Ranked
  shut_ranked = record r { nodes = close_at r.nodes i block; spent = spent }

  as_long : length shut_nodes ≡ length r.nodes
  as_long = length-close_at r.nodes i block there

  still_open : (j : ℕ) → IsFree shut_nodes j → (j ≢ i) × (node_at shut_nodes j ≡ node_at r.nodes j)
  still_open j is_free =
      elim (cases_eq j i) [
        | inl same ↦ absurd (free_shut (ap (λ m. (node_at shut_nodes m).end) (sym same) ∙ is_free) (ap (λ (n : Node). n.end) (close_at-same r.nodes i block there)))
        | inr other ↦ (other, close_at-other r.nodes i block there j other)
      ]

  waits_still : (j : ℕ) → Waits shut_ranked j → Waits r j × (node_at shut_nodes j ≡ node_at r.nodes j)
  waits_still j waits =
      let other = still_open j waits.free in
      (record { there = (let t = waits.there in omega (arith, t, as_long)); free = ap (λ (n : Node). n.end) (sym other.1) ∙ waits.free; unlisted = waits.unlisted }, other.1)

  pub keeps_closed : r.spent ≤ spent → spent ≤ r.spent + 1 → IsKept P shut_ranked
  keeps_closed low high =
      let some = before_some r.nodes i kept.linked there in
      let more = count_close r.nodes i block kept.linked there free some in
      let same_splits = splits_close r.nodes i block kept.linked there free some in
      record {
        linked = linked_new;
        floors = kept.floors ∙ sym as_long;
        numbers = kept.numbers ∙ sym as_long;
        waiting = λ j waits.
            let still = waits_still j waits in
            let was = kept.waiting j still.0 in
            record {
              empty = ap (λ (n : Node). n.block) still.1 ∙ was.empty;
              floor_is = λ history before. was.floor_is history (before_close r.nodes i block j history kept.linked there free before);
            };
        listed = λ j m h is_free is. let other = still_open j is_free in kept.listed j m (omega (arith, h, as_long)) (ap (λ (n : Node). n.end) (sym other.1) ∙ is_free) is;
        valid = record { each = kept_by_close (λ history n. ValidNode P history n.block n.end r.threshold) r.nodes i block kept.linked there free kept.valid.each (λ history before. ((may history before).runs.run, (may history before).closes)) };
        strict = record { each = kept_by_close (λ history n. StrictNode P history n.block n.end) r.nodes i block kept.linked there free kept.strict.each (λ history before. tt) };
        tame = record { each = kept_by_close (λ history n. TameBlock P history n.block) r.nodes i block kept.linked there free kept.tame.each (λ history before. (may history before).runs.tame) };
        leaves = leaves_moved P r shut_ranked (λ s leaf is. record {
          there = (let t = is.there in omega (arith, t, as_long));
          numbered = is.numbered;
          found = λ history is_free before.
              let other = still_open leaf.number is_free in
              subst (λ (n : Node). IsFound P s (after n.block history)) (sym other.1) (is.found history (ap (λ (n : Node). n.end) (sym other.1) ∙ is_free) (before_close r.nodes i block leaf.number history kept.linked there free before));
        }) r.list r.leaves kept.leaves;
        solutions = kept.solutions;
        ordered = kept.ordered;
        within = kept.within;
        below = kept.below;
        some = kept.some;
        few = kept.few;
        expanded = (let e = kept.expanded in omega (arith, same_splits, e, low));
        counted = (let c = kept.counted in omega (arith, more, c, high));
      }

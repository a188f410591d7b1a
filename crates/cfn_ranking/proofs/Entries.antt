-- What a ranking keeps where an assignment leaves its list, or enters it.
use Rattle.std.proofs.Common.{◌≡◌, ◌≢◌, ℕ, ◌+◌, ◌<◌, ◌≤◌, inl, inr, List, [], ◌∷◌, ◌++◌, length, None, Some, refl, sym, ap, ◌∙◌, subst, arith, length-append}
use Rattle.std.proofs.lemmas.Bool.{cases_eq}
use Rattle.std.proofs.lemmas.List.{get_or-set_same, get_or-set_other, length-set}
use Rattle.std.specs.Prelude.{slice_set, min, if◌then◌else◌}
use Rattle.std.specs.List.{AllByRecursion, insert}
use Rattle.cfn_model.specs.declared.step.Step.{Step}
use Rattle.cfn_model.specs.declared.step.Event.{Event}
use Rattle.cfn_model.specs.Network.{Network}
use Rattle.cfn_model.specs.Certificate.{Solution, IsSolution}
use Rattle.cfn_model.specs.Steps.{Run, after}
use Rattle.cfn_model.specs.Paths.{TameBlock}
use Rattle.cfn_model.specs.Tree.{count}
use Rattle.cfn_model.proofs.CallerLemmas.{close_lower, eqb_same, eqb_other, run_lower}
use Rattle.cfn_proof.specs.declared.tree.NodeId.{NodeId}
use Rattle.cfn_proof.specs.declared.tree.End.{End}
use Rattle.cfn_proof.specs.declared.tree.End.TheVariants.{Free, Shut, Split}
use Rattle.cfn_proof.specs.declared.tree.Node.{Node}
use Rattle.cfn_proof.specs.Nodes.{node_at, tree_of, IsLinked, IsFree, Before, close_at, leave_at}
use Rattle.cfn_proof.specs.Local.{ValidNode, StrictNode}
use Rattle.cfn_proof.proofs.CallerLemmas.{before_close, before_some, close_at-same, close_at-other, count_close, length-close_at, length-leave_at, leave_at-same, leave_at-other}
use Rattle.cfn_best.specs.List.{IsOrdered, last_cost, threshold_of}
use Rattle.cfn_ranking.specs.declared.list.Listed.{Listed}
use Rattle.cfn_ranking.specs.Certificates.{solution_of, solutions_of}
use Rattle.cfn_ranking.specs.Trees.{number_at}
use Rattle.cfn_ranking.specs.Ranked.{Ranked, AreLeaves, AreWithin, IsFound, IsLeafOf, HasLeaf, IsToExpand, Waits, IsKept, IsRanked}
use Rattle.cfn_ranking.specs.Changes.{Drops, CanStay, Exchanges, KeepsPaths, IsPlaceOf, Leaves, MakesRoom, MayClose, entered, has_room, drops}
use Rattle.cfn_ranking.proofs.Nodes.{before_leave, free_shut, kept_by_leave}
use Rattle.cfn_ranking.proofs.Counts.{count_leave, splits_leave}
use Rattle.cfn_ranking.proofs.Lists.{all_front, all_insert, has_front, has_insert, has_inserted, last_within, leaves_front, leaves_insert, leaves_moved, length_insert, length_solutions, ordered_front, ordered_insert, place_front, solutions_push, within_last}
use Rattle.cfn_ranking.proofs.Keeping.{closed_waits, keeps_closed}

-- the threshold of a list
pub full_threshold : (upper n : ℕ) (list : List Solution) → length list ≡ n → threshold_of upper n list ≡ last_cost upper list
full_threshold upper n list full = ap (λ b. if b then last_cost upper list else upper) (eqb_same (length list) n full)

pub open_threshold : (upper n : ℕ) (list : List Solution) → (length list ≡ n → ⊥) → threshold_of upper n list ≡ upper
open_threshold upper n list few = ap (λ b. if b then last_cost upper list else upper) (eqb_other (length list) n few)

last_push : (none : ℕ) (list : List Solution) (s : Solution) → last_cost none (list ++ s ∷ []) ≡ s.cost
last_push none [] s = refl
last_push none (t ∷ list) s = last_push t.cost list s

-- an open leaf's block runs at the threshold
pub own_run : (P : Network) (history : List Event) (block : List Step) (e : End) (k : ℕ) → e ≡ Free → ValidNode P history block e k → Run P history block k
own_run P history block e k is valid = subst (λ end. ValidNode P history block end k) is valid

-- a lower threshold keeps all
lower_node : (P : Network) (history : List Event) (block : List Step) (e : End) (k low : ℕ) → low ≤ k → ValidNode P history block e k → ValidNode P history block e low
lower_node P history block Free k low h valid = run_lower P history block k low h valid
lower_node P history block Shut k low h valid = (run_lower P history block k low h valid.0, close_lower P (after block history) k low h valid.1)
lower_node P history block (Split d first second) k low h valid = (run_lower P history block k low h valid.0, valid.1)

pub keeps_lower : (P : Network) (r : Ranked) (k : ℕ) → IsKept P r → k ≤ r.threshold → AreWithin k r.list → IsKept P (record r { threshold = k })
keeps_lower P r k kept low within = record {
  linked = kept.linked;
  floors = kept.floors;
  numbers = kept.numbers;
  waiting = λ i waits. (let was = kept.waiting i (record { there = waits.there; free = waits.free; unlisted = waits.unlisted }) in record { empty = was.empty; floor_is = was.floor_is });
  listed = kept.listed;
  valid = record { each = λ i history there before. lower_node P history (node_at r.nodes i).block (node_at r.nodes i).end r.threshold k low (kept.valid.each i history there before) };
  strict = kept.strict;
  tame = kept.tame;
  leaves = leaves_moved P r (record r { threshold = k }) (λ s leaf is. record { there = is.there; numbered = is.numbered; found = is.found }) r.list r.leaves kept.leaves;
  solutions = kept.solutions;
  ordered = kept.ordered;
  within = within;
  below = (let b = kept.below in omega (arith, low, b));
  some = kept.some;
  few = kept.few;
  expanded = kept.expanded;
  counted = kept.counted;
}

-- the last assignment is taken out of the list, where its leaf is closed
keeps_shorter : (P : Network) (r : Ranked) (rest : List Solution) (others : List NodeId) (s : Solution) (leaf : NodeId) → IsKept P r → r.list ≡ rest ++ s ∷ [] → r.leaves ≡ others ++ leaf ∷ [] → (IsFree r.nodes leaf.number → ⊥) → r.spent ≤ count (tree_of r.nodes) + length rest → IsKept P (record r { list = rest; leaves = others })
keeps_shorter P r rest others s leaf kept list leaves shut counted =
    let two = leaves_front P r rest others s leaf (subst (λ l. AreLeaves P r l (others ++ leaf ∷ [])) list (subst (λ l. AreLeaves P r r.list l) leaves kept.leaves)) in
    record {
      linked = kept.linked;
      floors = kept.floors;
      numbers = kept.numbers;
      waiting = λ i waits. (let was = kept.waiting i (record { there = waits.there; free = waits.free; unlisted = waits.unlisted }) in record { empty = was.empty; floor_is = was.floor_is });
      listed = λ i j there free is. has_front others leaf i (λ same. shut (subst (λ n. IsFree r.nodes n) (sym same) free)) (subst (λ l. HasLeaf l i) leaves (kept.listed i j there free is));
      valid = kept.valid;
      strict = kept.strict;
      tame = kept.tame;
      leaves = leaves_moved P r (record r { list = rest; leaves = others }) (λ t l is. record { there = is.there; numbered = is.numbered; found = is.found }) rest others two.0;
      solutions = (all_front (IsSolution P) rest s (subst (AllByRecursion (IsSolution P)) list kept.solutions)).0;
      ordered = ordered_front rest s (subst IsOrdered list kept.ordered);
      within = (all_front (λ (t : Solution). t.cost ≤ r.threshold) rest s (subst (AreWithin r.threshold) list kept.within)).0;
      below = kept.below;
      some = kept.some;
      few = (let f = kept.few in let e = ap length list in let l = length-append rest (s ∷ []) in omega (arith, f, e, l));
      expanded = kept.expanded;
      counted = counted;
    }

-- room is made in the list
module _ (P : Network) (r : Ranked) (items rest : List Listed) (others : List NodeId) (less : List Node) (ranked : IsRanked P r) (is_list : r.list ≡ solutions_of items) (linked_less : IsLinked less) where
  abbrev pub roomy : Ranked
  roomy = record r { nodes = less; list = solutions_of rest; leaves = others }

  pub record IsRoomy : Type 0 where
    pub kept : IsKept P roomy
    pub room : length (solutions_of rest) < r.count
    pub waits : (i : ℕ) → Waits r i → Waits roomy i
    pub before : (i : ℕ) (history : List Event) → Before less i history → Before r.nodes i history
    pub places : (s : Solution) (p : ℕ) → IsPlaceOf r.list s p → IsPlaceOf (solutions_of rest) s (min p (length rest))
    pub full : (length (solutions_of rest) + 1 ≡ r.count → ⊥) → r.threshold ≡ P.upper

  had_room : (length items ≡ r.count → ⊥) → less ≡ r.nodes → rest ≡ items → others ≡ r.leaves → IsRoomy
  had_room few nodes list leaves =
      let same : solutions_of rest ≡ r.list = ap solutions_of list ∙ sym is_list in
      let long : length r.list ≡ length items = ap length is_list ∙ length_solutions items in
      let all : roomy ≡ r = ap (λ n. record r { nodes = n; list = solutions_of rest; leaves = others }) nodes ∙ ap (λ l. record r { list = l; leaves = others }) same ∙ ap (λ l. record r { leaves = l }) leaves in
      record {
        kept = subst (IsKept P) (sym all) ranked.kept;
        room = (let f = ranked.kept.few in let e = ap length same in omega (arith, f, e, long, few_than));
        waits = λ i waits. subst (λ t. Waits t i) (sym all) waits;
        before = λ i history before. subst (λ n. Before n i history) nodes before;
        places = λ s p place. (let w = place.within in let l = ap length list in subst (λ q. IsPlaceOf (solutions_of rest) s q) (omega (arith, w, long, l)) (subst (λ l. IsPlaceOf l s p) (sym same) place));
        full = λ none. ranked.threshold_is ∙ open_threshold P.upper r.count r.list (λ e. few (sym long ∙ e));
      }
    where
      few_than : length items ≢ r.count
      few_than = few

  dropped : length items ≡ r.count → Drops r.nodes items r.leaves less rest others → IsRoomy
  dropped full drop =
      let s = solution_of drop.last in
      let leaf = drop.leaf in
      let list : r.list ≡ solutions_of rest ++ s ∷ [] = is_list ∙ ap solutions_of drop.list_is ∙ solutions_push rest drop.last in
      let long : length r.list ≡ length items = ap length is_list ∙ length_solutions items in
      let price : r.threshold ≡ s.cost = ranked.threshold_is ∙ full_threshold P.upper r.count r.list (long ∙ full) ∙ ap (last_cost P.upper) list ∙ last_push P.upper (solutions_of rest) s in
      let two = leaves_front P r (solutions_of rest) others s leaf (subst (λ l. AreLeaves P r l (others ++ leaf ∷ [])) list (subst (λ l. AreLeaves P r r.list l) drop.leaves_are ranked.kept.leaves)) in
      let own = (node_at r.nodes leaf.number).block in
      let may : (history : List Event) → Before r.nodes leaf.number history → MayClose P history r.threshold own = λ history before. record {
        runs = record {
          run = own_run P history own (node_at r.nodes leaf.number).end r.threshold drop.free (ranked.kept.valid.each leaf.number history drop.there before);
          tame = ranked.kept.tame.each leaf.number history drop.there before;
        };
        closes = inl (let d = (two.1.found history drop.free before).dear in omega (arith, d, price));
      } in
      let linked_shut : IsLinked (close_at r.nodes leaf.number own) = subst IsLinked drop.shut linked_less in
      let closed = keeps_closed P r leaf.number own r.spent ranked.kept drop.there drop.free may linked_shut (omega arith) (omega arith) in
      let some = before_some r.nodes leaf.number ranked.kept.linked drop.there in
      let more = count_close r.nodes leaf.number own ranked.kept.linked drop.there drop.free some in
      let long_rest = ap length list ∙ length-append (solutions_of rest) (s ∷ []) in
      let counted = ranked.kept.counted in
      let shorter = keeps_shorter P (record r { nodes = close_at r.nodes leaf.number own; spent = r.spent }) (solutions_of rest) others s leaf closed list drop.leaves_are
      (λ free. free_shut free (ap (λ (n : Node). n.end) (close_at-same r.nodes leaf.number own drop.there)))
      (omega (arith, counted, more, long_rest)) in
      record {
        kept = subst (λ n. IsKept P (record r { nodes = n; list = solutions_of rest; leaves = others })) (sym drop.shut) shorter;
        room = (omega (arith, long, full, long_rest));
        waits = λ i waits. (let other : i ≢ leaf.number = (λ same. two.1.numbered (subst (λ n. number_at r.numbers n ≡ None) same waits.unlisted)) in
            let same : node_at less i ≡ node_at r.nodes i = ap (λ n. node_at n i) drop.shut ∙ close_at-other r.nodes leaf.number own drop.there i other in
            record {
              there = (let t = waits.there in let l = ap length drop.shut in let m = length-close_at r.nodes leaf.number own drop.there in omega (arith, t, l, m));
              free = ap (λ (n : Node). n.end) same ∙ waits.free;
              unlisted = waits.unlisted;
            });
        before = λ i history before. before_close r.nodes leaf.number own i history ranked.kept.linked drop.there drop.free (subst (λ n. Before n i history) drop.shut before);
        places = λ t p place. subst (λ n. IsPlaceOf (solutions_of rest) t (min p n)) (length_solutions rest) (place_front (solutions_of rest) s t p (subst (λ l. IsPlaceOf l t p) list place));
        full = λ none. absurd (none (sym long_rest ∙ long ∙ full));
      }

  pub is_roomy : MakesRoom r.count r.nodes items r.leaves less rest others → IsRoomy
  is_roomy (has_room few nodes list leaves) = had_room few nodes list leaves
  is_roomy (drops full drop) = dropped full drop

-- an assignment enters the list, and its leaf stays open
module _ (P : Network) (r : Ranked) (leaf : NodeId) (block : List Step) (p : ℕ) (s : Solution) (kept : IsKept P r) (waits : Waits r leaf.number) (leaves : (history : List Event) → Before r.nodes leaf.number history → Leaves P history r.threshold block s) (linked_new : IsLinked (leave_at r.nodes leaf.number block)) where
  abbrev new : List Node
  new = leave_at r.nodes leaf.number block

  as_long : length new ≡ length r.nodes
  as_long = length-leave_at r.nodes leaf.number block waits.there

  before_was : (j : ℕ) (history : List Event) → Before new j history → Before r.nodes j history
  before_was j history before = before_leave r.nodes leaf.number block j history waits.there waits.free before

  same_node : (j : ℕ) → j ≢ leaf.number → node_at new j ≡ node_at r.nodes j
  same_node j other = leave_at-other r.nodes leaf.number block waits.there j other

  numbered_here : number_at (slice_set r.numbers leaf.number (Some 0)) leaf.number ≡ Some 0
  numbered_here = get_or-set_same r.numbers leaf.number (Some 0) None (let t = waits.there in let n = kept.numbers in omega (arith, t, n))

  same_number : (j : ℕ) → j ≢ leaf.number → number_at (slice_set r.numbers leaf.number (Some 0)) j ≡ number_at r.numbers j
  same_number j other = get_or-set_other r.numbers leaf.number j (Some 0) None other

  still_waits : (j : ℕ) → Waits (entered r leaf block p s) j → IsToExpand P (entered r leaf block p s) j
  still_waits j waits_now =
      elim (cases_eq j leaf.number) [
        | inl same ↦ absurd (closed_waits waits_now.unlisted (ap (number_at (slice_set r.numbers leaf.number (Some 0))) same ∙ numbered_here))
        | inr other ↦
            let was = kept.waiting j (record { there = (let t = waits_now.there in omega (arith, t, as_long)); free = ap (λ (n : Node). n.end) (sym (same_node j other)) ∙ waits_now.free; unlisted = sym (same_number j other) ∙ waits_now.unlisted }) in
            record {
              empty = ap (λ (n : Node). n.block) (same_node j other) ∙ was.empty;
              floor_is = λ history before. was.floor_is history (before_was j history before);
            }
      ]

  still_listed : (j m : ℕ) → j < length new → IsFree new j → number_at (slice_set r.numbers leaf.number (Some 0)) j ≡ Some m → HasLeaf (insert r.leaves p leaf) j
  still_listed j m there free is =
      elim (cases_eq j leaf.number) [
        | inl same ↦ subst (HasLeaf (insert r.leaves p leaf)) (sym same) (has_inserted r.leaves p leaf)
        | inr other ↦ has_insert r.leaves p leaf j (kept.listed j m (omega (arith, there, as_long)) (ap (λ (n : Node). n.end) (sym (same_node j other)) ∙ free) (sym (same_number j other) ∙ is))
      ]

  moved : (t : Solution) (l : NodeId) → IsLeafOf P r t l → IsLeafOf P (entered r leaf block p s) t l
  moved t l is =
      let other : l.number ≢ leaf.number = (λ same. is.numbered (ap (number_at r.numbers) same ∙ waits.unlisted)) in
      record {
        there = (let h = is.there in omega (arith, h, as_long));
        numbered = λ none. is.numbered (sym (same_number l.number other) ∙ none);
        found = λ history free before. subst (λ (n : Node). IsFound P t (after n.block history)) (sym (same_node l.number other)) (is.found history (ap (λ (n : Node). n.end) (sym (same_node l.number other)) ∙ free) (before_was l.number history before));
      }

  own_leaf : IsLeafOf P (entered r leaf block p s) s leaf
  own_leaf = record {
    there = (let h = waits.there in omega (arith, h, as_long));
    numbered = λ none. closed_waits none numbered_here;
    found = λ history free before. subst (λ (n : Node). IsFound P s (after n.block history)) (sym (leave_at-same r.nodes leaf.number block waits.there)) (leaves history (before_was leaf.number history before)).found;
  }

  pub keeps_entered : IsPlaceOf r.list s p → length r.list < r.count → IsKept P (entered r leaf block p s)
  keeps_entered place room =
      let some = before_some r.nodes leaf.number kept.linked waits.there in
      let one = leaves some.0 some.1 in
      record {
        linked = linked_new;
        floors = kept.floors ∙ sym as_long;
        numbers = length-set r.numbers leaf.number (Some 0) ∙ kept.numbers ∙ sym as_long;
        waiting = still_waits;
        listed = still_listed;
        valid = record { each = kept_by_leave (λ history n. ValidNode P history n.block n.end r.threshold) r.nodes leaf.number block kept.linked waits.there waits.free kept.valid.each (λ history before. subst (λ e. ValidNode P history block e r.threshold) (sym waits.free) (leaves history before).runs.run) };
        strict = record { each = kept_by_leave (λ history n. StrictNode P history n.block n.end) r.nodes leaf.number block kept.linked waits.there waits.free kept.strict.each (λ history before. subst (λ e. StrictNode P history block e) (sym waits.free) tt) };
        tame = record { each = kept_by_leave (λ history n. TameBlock P history n.block) r.nodes leaf.number block kept.linked waits.there waits.free kept.tame.each (λ history before. (leaves history before).runs.tame) };
        leaves = leaves_insert P (entered r leaf block p s) r.list r.leaves p s leaf (leaves_moved P r (entered r leaf block p s) moved r.list r.leaves kept.leaves) own_leaf;
        solutions = all_insert (IsSolution P) r.list p s kept.solutions one.solution;
        ordered = ordered_insert r.list p s kept.ordered place;
        within = all_insert (λ (t : Solution). t.cost ≤ r.threshold) r.list p s kept.within (let c = one.cheap in omega (arith, c));
        below = kept.below;
        some = kept.some;
        few = (let l = length_insert r.list p s in omega (arith, l, room));
        expanded = (let e = kept.expanded in let x = splits_leave r.nodes leaf.number block kept.linked linked_new waits.there waits.free in omega (arith, e, x));
        counted = (let c = kept.counted in let x = count_leave r.nodes leaf.number block kept.linked linked_new waits.there waits.free in let l = length_insert r.list p s in omega (arith, c, x, l));
      }

-- and then the threshold is that of the list
pub keeps_priced : (P : Network) (r : Ranked) (k : ℕ) → IsKept P r → ((length r.list ≡ r.count → ⊥) → r.threshold ≡ P.upper) → k ≡ threshold_of P.upper r.count r.list → IsRanked P (record r { threshold = k })
keeps_priced P r k kept loose is =
    elim (cases_eq (length r.list) r.count) [
      | inl full ↦
          let price : k ≡ last_cost P.upper r.list = is ∙ full_threshold P.upper r.count r.list full in
          record {
            kept = keeps_lower P r k kept (let some = kept.some in let l = below_last r.threshold r.list kept.within (omega (arith, full, some)) in omega (arith, price, l)) (subst (λ n. AreWithin n r.list) (sym price) (within_all r.list kept.ordered));
            threshold_is = is;
          }
      | inr other ↦
          let price : k ≡ r.threshold = is ∙ open_threshold P.upper r.count r.list other ∙ sym (loose other) in
          record {
            kept = keeps_lower P r k kept (omega (arith, price)) (subst (λ n. AreWithin n r.list) (sym price) kept.within);
            threshold_is = is;
          }
    ]
  where
    within_all : (list : List Solution) → IsOrdered list → AreWithin (last_cost P.upper list) list
    within_all [] ordered = tt
    within_all (t ∷ list) ordered = (within_last P.upper t list ordered).0

    below_last : (n : ℕ) (list : List Solution) → AreWithin n list → 0 < length list → last_cost P.upper list ≤ n
    below_last n [] within some = absurd (omega (arith, some))
    below_last n (t ∷ list) within some = last_within n t.cost list within.0 within.1

-- a leaf that waits is none of the list's
waits_not : (P : Network) (r : Ranked) (i : ℕ) (list : List Solution) (leaves : List NodeId) → Waits r i → AreLeaves P r list leaves → HasLeaf leaves i → ⊥
waits_not P r i list [] waits are has = has
waits_not P r i [] (leaf ∷ leaves) waits are has = are
waits_not P r i (s ∷ list) (leaf ∷ leaves) waits are (inl same) = are.0.numbered (ap (number_at r.numbers) same ∙ waits.unlisted)
waits_not P r i (s ∷ list) (leaf ∷ leaves) waits are (inr has) = waits_not P r i list leaves waits are.1 has

pub can_stay : (P : Network) (r : Ranked) (i : ℕ) → IsRanked P r → Waits r i → CanStay r i
can_stay P r i ranked waits = record {
  numbered = (let t = waits.there in let n = ranked.kept.numbers in omega (arith, t, n));
  none = waits_not P r i r.list r.leaves waits ranked.kept.leaves;
}

-- an assignment entered a list, and then its threshold is that of the list
pub enters : (P : Network) (r now : Ranked) (leaf : NodeId) (block : List Step) (p k : ℕ) (listed : Listed) → IsRanked P r → Waits r leaf.number → ((history : List Event) → Before r.nodes leaf.number history → Leaves P history r.threshold block (solution_of listed)) → IsPlaceOf r.list (solution_of listed) p → Exchanges r leaf block p listed now → IsLinked now.nodes → k ≡ threshold_of P.upper now.count now.list → IsRanked P (record now { threshold = k })
enters P r now leaf block p k listed ranked waits leaves place ex linked is =
    let s = solution_of listed in
    let room = is_roomy P r ex.items ex.rest ex.others ex.less ranked ex.list_is ex.linked ex.room in
    let mid : Ranked = record r { nodes = ex.less; list = solutions_of ex.rest; leaves = ex.others } in
    let q = min p (length ex.rest) in
    let linked_here : IsLinked (leave_at ex.less leaf.number block) = subst IsLinked (ap (λ (t : Ranked). t.nodes) ex.is) linked in
    let kept = keeps_entered P mid leaf block q s room.kept (room.waits leaf.number waits) (λ history before. leaves history (room.before leaf.number history before)) linked_here (room.places s p place) room.room in
    let price : k ≡ threshold_of P.upper r.count (insert (solutions_of ex.rest) q s) = is ∙ ap (λ (t : Ranked). threshold_of P.upper t.count t.list) ex.is in
    let done = keeps_priced P (entered mid leaf block q s) k kept (λ few. room.full (λ e. few (length_insert (solutions_of ex.rest) q s ∙ e))) price in
    subst (λ (t : Ranked). IsRanked P (record t { threshold = k })) (sym ex.is) done

-- and what stands before a node stays
pub keeps_paths : (P : Network) (r now : Ranked) (leaf : NodeId) (block : List Step) (p : ℕ) (listed : Listed) → IsRanked P r → Waits r leaf.number → Exchanges r leaf block p listed now → KeepsPaths r.nodes now.nodes
keeps_paths P r now leaf block p listed ranked waits ex =
    let room = is_roomy P r ex.items ex.rest ex.others ex.less ranked ex.list_is ex.linked ex.room in
    let still = room.waits leaf.number waits in
    let nodes : now.nodes ≡ leave_at ex.less leaf.number block = ap (λ (t : Ranked). t.nodes) ex.is in
    record {
      long = ap length nodes ∙ length-leave_at ex.less leaf.number block still.there ∙ sym room.kept.floors ∙ ranked.kept.floors;
      before = λ i history before. room.before i history (before_leave ex.less leaf.number block i history still.there still.free (subst (λ n. Before n i history) nodes before));
    }

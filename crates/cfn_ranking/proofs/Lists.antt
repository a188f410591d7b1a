-- Ordered lists with one assignment more or less.
use Rattle.std.proofs.Common.{◌≡◌, ℕ, zero, suc, ◌+◌, ◌<◌, ◌≤◌, inl, inr, List, [], ◌∷◌, ◌++◌, length, false, refl, sym, ap, ◌∙◌, subst, arith, length-append}
use Rattle.std.proofs.lemmas.Bool.{cases_lt, le-ltb, ne_eqb}
use Rattle.std.specs.Prelude.{slice_index_or, min, nat_lt, ◌==◌}
use Rattle.std.specs.List.{AllByRecursion, insert}
use Rattle.std.specs.declared.cmp.Ordering.TheVariants.{Less, Greater}
use Rattle.cfn_model.specs.Network.{Network}
use Rattle.cfn_model.specs.Certificate.{Solution}
use Rattle.cfn_proof.specs.declared.tree.NodeId.{NodeId}
use Rattle.cfn_best.specs.List.{IsBefore, IsOrdered, last_cost, order}
use Rattle.cfn_ranking.specs.declared.list.Listed.{Listed}
use Rattle.cfn_ranking.specs.Certificates.{solution_of, solutions_of}
use Rattle.cfn_ranking.specs.Ranked.{Ranked, AreLeaves, AreWithin, HasLeaf, IsLeafOf}
use Rattle.cfn_ranking.specs.Changes.{IsPlaceOf}

-- an assignment that goes to its place keeps the order
ordered_with : (list : List Solution) (p : ℕ) (s : Solution) → IsOrdered list → ((i : ℕ) (other : Solution) → i < p → IsBefore (slice_index_or list i other) s) → ((other : Solution) → p < length list → IsBefore s (slice_index_or list p other)) → p ≤ length list → IsOrdered (insert list p s)
ordered_with [] zero s ordered behind before within = tt
ordered_with (t ∷ list) zero s ordered behind before within = (before s (omega arith), ordered)
ordered_with [] (suc p) s ordered behind before within = absurd (omega (arith, within))
ordered_with (t ∷ []) (suc zero) s ordered behind before within = (behind 0 s (omega arith), tt)
ordered_with (t ∷ []) (suc (suc p)) s ordered behind before within = absurd (omega (arith, within))
ordered_with (t ∷ u ∷ list) (suc zero) s ordered behind before within = (behind 0 s (omega arith), (before s (omega arith), ordered.1))
ordered_with (t ∷ u ∷ list) (suc (suc p)) s ordered behind before within =
    (ordered.0, ordered_with (u ∷ list) (suc p) s ordered.1 (λ i other h. behind (suc i) other (omega (arith, h))) (λ other h. before other (omega (arith, h))) (omega (arith, within)))

pub ordered_insert : (list : List Solution) (p : ℕ) (s : Solution) → IsOrdered list → IsPlaceOf list s p → IsOrdered (insert list p s)
ordered_insert list p s ordered place = ordered_with list p s ordered place.behind place.before place.within

-- what holds of all holds of all with one more
pub all_insert : {T : Type 0} (Q : T → Type 0) (list : List T) (p : ℕ) (s : T) → AllByRecursion Q list → Q s → AllByRecursion Q (insert list p s)
all_insert Q [] zero s all one = (one, tt)
all_insert Q [] (suc p) s all one = (one, tt)
all_insert Q (t ∷ list) zero s all one = (one, all)
all_insert Q (t ∷ list) (suc p) s all one = (all.0, all_insert Q list p s all.1 one)

pub length_insert : {T : Type 0} (list : List T) (p : ℕ) (s : T) → length (insert list p s) ≡ length list + 1
length_insert [] zero s = refl
length_insert [] (suc p) s = refl
length_insert (t ∷ list) zero s = omega arith
length_insert (t ∷ list) (suc p) s = let e = length_insert list p s in omega (arith, e)

pub map_insert : (list : List Listed) (p : ℕ) (s : Listed) → solutions_of (insert list p s) ≡ insert (solutions_of list) p (solution_of s)
map_insert [] zero s = refl
map_insert [] (suc p) s = refl
map_insert (t ∷ list) zero s = refl
map_insert (t ∷ list) (suc p) s = ap (λ l. solution_of t ∷ l) (map_insert list p s)

pub leaves_insert : (P : Network) (r : Ranked) (list : List Solution) (leaves : List NodeId) (p : ℕ) (s : Solution) (leaf : NodeId) → AreLeaves P r list leaves → IsLeafOf P r s leaf → AreLeaves P r (insert list p s) (insert leaves p leaf)
leaves_insert P r [] [] zero s leaf are is = (is, tt)
leaves_insert P r [] [] (suc p) s leaf are is = (is, tt)
leaves_insert P r [] (l ∷ leaves) p s leaf are is = absurd are
leaves_insert P r (t ∷ list) [] p s leaf are is = absurd are
leaves_insert P r (t ∷ list) (l ∷ leaves) zero s leaf are is = (is, are)
leaves_insert P r (t ∷ list) (l ∷ leaves) (suc p) s leaf are is = (are.0, leaves_insert P r list leaves p s leaf are.1 is)

pub has_insert : (leaves : List NodeId) (p : ℕ) (leaf : NodeId) (i : ℕ) → HasLeaf leaves i → HasLeaf (insert leaves p leaf) i
has_insert [] p leaf i has = absurd has
has_insert (l ∷ leaves) zero leaf i has = inr has
has_insert (l ∷ leaves) (suc p) leaf i (inl is) = inl is
has_insert (l ∷ leaves) (suc p) leaf i (inr has) = inr (has_insert leaves p leaf i has)

pub has_inserted : (leaves : List NodeId) (p : ℕ) (leaf : NodeId) → HasLeaf (insert leaves p leaf) leaf.number
has_inserted [] zero leaf = inl refl
has_inserted [] (suc p) leaf = inl refl
has_inserted (l ∷ leaves) zero leaf = inl refl
has_inserted (l ∷ leaves) (suc p) leaf = inr (has_inserted leaves p leaf)

-- the front of a list
pub ordered_front : (list : List Solution) (s : Solution) → IsOrdered (list ++ s ∷ []) → IsOrdered list
ordered_front [] s ordered = tt
ordered_front (t ∷ []) s ordered = tt
ordered_front (t ∷ u ∷ list) s ordered = (ordered.0, ordered_front (u ∷ list) s ordered.1)

pub all_front : {T : Type 0} (Q : T → Type 0) (list : List T) (s : T) → AllByRecursion Q (list ++ s ∷ []) → AllByRecursion Q list × Q s
all_front Q [] s all = (tt, all.0)
all_front Q (t ∷ list) s all = let rest = all_front Q list s all.1 in ((all.0, rest.0), rest.1)

pub leaves_front : (P : Network) (r : Ranked) (list : List Solution) (leaves : List NodeId) (s : Solution) (leaf : NodeId) → AreLeaves P r (list ++ s ∷ []) (leaves ++ leaf ∷ []) → AreLeaves P r list leaves × IsLeafOf P r s leaf
leaves_front P r [] [] s leaf are = (tt, are.0)
leaves_front P r [] (l ∷ []) s leaf are = absurd are.1
leaves_front P r [] (l ∷ m ∷ leaves) s leaf are = absurd are.1
leaves_front P r (t ∷ []) [] s leaf are = absurd are.1
leaves_front P r (t ∷ u ∷ list) [] s leaf are = absurd are.1
leaves_front P r (t ∷ list) (l ∷ leaves) s leaf are = let rest = leaves_front P r list leaves s leaf are.1 in ((are.0, rest.0), rest.1)

pub has_front : (leaves : List NodeId) (leaf : NodeId) (i : ℕ) → (leaf.number ≡ i → ⊥) → HasLeaf (leaves ++ leaf ∷ []) i → HasLeaf leaves i
has_front [] leaf i other (inl is) = absurd (other is)
has_front [] leaf i other (inr none) = absurd none
has_front (l ∷ leaves) leaf i other (inl is) = inl is
has_front (l ∷ leaves) leaf i other (inr has) = inr (has_front leaves leaf i other has)

pub as_many : (P : Network) (r : Ranked) (list : List Solution) (leaves : List NodeId) → AreLeaves P r list leaves → length list ≡ length leaves
as_many P r [] [] are = refl
as_many P r [] (l ∷ leaves) are = absurd are
as_many P r (s ∷ list) [] are = absurd are
as_many P r (s ∷ list) (l ∷ leaves) are = let e = as_many P r list leaves are.1 in omega (arith, e)

pub solutions_push : (list : List Listed) (s : Listed) → solutions_of (list ++ s ∷ []) ≡ solutions_of list ++ solution_of s ∷ []
solutions_push [] s = refl
solutions_push (t ∷ list) s = ap (λ l. solution_of t ∷ l) (solutions_push list s)

pub length_solutions : (list : List Listed) → length (solutions_of list) ≡ length list
length_solutions [] = refl
length_solutions (s ∷ list) = let e = length_solutions list in omega (arith, e)

-- where leaves move, what they are of stays
pub leaves_moved : (P : Network) (r t : Ranked) → ((s : Solution) (leaf : NodeId) → IsLeafOf P r s leaf → IsLeafOf P t s leaf) → (list : List Solution) (leaves : List NodeId) → AreLeaves P r list leaves → AreLeaves P t list leaves
leaves_moved P r t moves [] [] are = tt
leaves_moved P r t moves [] (l ∷ leaves) are = absurd are
leaves_moved P r t moves (s ∷ list) [] are = absurd are
leaves_moved P r t moves (s ∷ list) (l ∷ leaves) are = (moves s l are.0, leaves_moved P r t moves list leaves are.1)

-- a place in the front of a list
front_at : (list : List Solution) (s other : Solution) (i : ℕ) → i < length list → slice_index_or (list ++ s ∷ []) i other ≡ slice_index_or list i other
front_at [] s other i h = absurd (omega (arith, h))
front_at (t ∷ list) s other zero h = refl
front_at (t ∷ list) s other (suc i) h = front_at list s other i (omega (arith, h))

pub place_front : (list : List Solution) (last s : Solution) (p : ℕ) → IsPlaceOf (list ++ last ∷ []) s p → IsPlaceOf list s (min p (length list))
place_front list last s p place = record {
  within = omega arith;
  behind = λ i other h. subst (λ t. IsBefore t s) (front_at list last other i (omega (arith, h))) (place.behind i other (omega (arith, h)));
  before = λ other h. (let small : p < length list = omega (arith, h) in let same : min p (length list) ≡ p = omega (arith, small) in subst (λ q. IsBefore s (slice_index_or list q other)) (sym same) (subst (λ t. IsBefore s t) (front_at list last other p small) (place.before other (omega (arith, small, length-append list (last ∷ []))))));
}

-- no assignment of an ordered list costs more than the last
before_costs : (s t : Solution) → IsBefore s t → s.cost ≤ t.cost
before_costs s t before =
    elim (cases_lt t.cost s.cost) [
      | inl lt ↦
          let not_less : nat_lt s.cost t.cost ≡ false = le-ltb s.cost t.cost (omega arith) in
          let unequal : (s.cost == t.cost) ≡ false = ne_eqb s.cost t.cost (λ e. absurd (omega arith)) in
          let greater : order s t ≡ Greater = rw (not_less, unequal) refl in
          let both : Less ≡ Greater = sym before ∙ greater in
          absurd cc
      | inr le ↦ le
    ]

pub within_last : (none : ℕ) (s : Solution) (list : List Solution) → IsOrdered (s ∷ list) → AreWithin (last_cost s.cost list) (s ∷ list) × (s.cost ≤ last_cost s.cost list)
within_last none s [] ordered = ((omega arith, tt), omega arith)
within_last none s (t ∷ list) ordered =
    let rest = within_last none t list ordered.1 in
    let less = before_costs s t ordered.0 in
    let low : s.cost ≤ last_cost t.cost list = omega (arith, less, rest.1) in
    ((low, rest.0), low)

pub last_within : (k none : ℕ) (list : List Solution) → none ≤ k → AreWithin k list → last_cost none list ≤ k
last_within k none [] low within = low
last_within k none (s ∷ list) low within = last_within k s.cost list within.0 within.1

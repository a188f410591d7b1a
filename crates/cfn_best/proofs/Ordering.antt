-- The order of a good list.
use Rattle.std.proofs.Common.{◌≡◌, ℕ, zero, suc, ◌<◌, ◌≤◌, inl, inr, true, false, List, [], ◌∷◌, ◌++◌, length, refl, sym, ap, ap₂, subst, ◌∙◌, arith}
use Rattle.std.proofs.lemmas.Bool.{cases_Bool, cases_lt, le-ltb, ne_eqb}
use Rattle.std.specs.Prelude.{◌==◌, nat_lt}
use Rattle.std.specs.List.{AllByRecursion}
use Rattle.std.specs.Ordering.{nat_cmp, ordering_then, ordering_reverse}
use Rattle.std.specs.declared.cmp.Ordering.{Ordering}
use Rattle.std.specs.declared.cmp.Ordering.TheVariants.{Less, Equal, Greater}
use Rattle.std.specs.Cmp.Lexicographic.{slice_cmp, nat_list_cmp_total}
use Rattle.cfn_model.specs.Network.{Network, cost}
use Rattle.cfn_model.specs.Certificate.{Solution, IsSolution}
use Rattle.cfn_best.specs.Tree.{solution_at}
use Rattle.cfn_best.specs.List.{ListCertificate, last_cost, threshold_of, order, IsBefore, IsOrdered, GoodList}
use Rattle.cfn_best.specs.Fault.{ComesBehind}
use Rattle.cfn_best.specs.Laws.{ListedInOrder, ListedAreDistinct, Cheapest, Fewer}
use Rattle.cfn_best.proofs.Unlisted.{all_at, others_cost_more}

before_trans : (s t u : Solution) → IsBefore s t → IsBefore t u → IsBefore s u
before_trans s t u = nat_list_cmp_total.trans (s.cost ∷ s.values) (t.cost ∷ t.values) (u.cost ∷ u.values)

never_before : (s : Solution) → IsBefore s s → ⊥
never_before s h =
    let back = nat_list_cmp_total.antisymm (s.cost ∷ s.values) (s.cost ∷ s.values) in
    let both : Less ≡ Greater = sym h ∙ back ∙ ap ordering_reverse h in
    absurd cc

cost_le : (s t : Solution) → IsBefore s t → s.cost ≤ t.cost
cost_le s t h =
    elim (cases_lt t.cost s.cost) [
      | inl lt ↦ let not_less : nat_lt s.cost t.cost ≡ false = le-ltb s.cost t.cost (omega arith) in
          let unequal : (s.cost == t.cost) ≡ false = ne_eqb s.cost t.cost (λ e. absurd (omega arith)) in
          let greater : order s t ≡ Greater = rw (not_less, unequal) refl in
          let both : Less ≡ Greater = sym h ∙ greater in
          absurd cc
      | inr le ↦ le
    ]

-- the first one comes before all others, and each before each later one
before_all : (s : Solution) (list : List Solution) (j : ℕ) → IsOrdered (s ∷ list) → j < length list → IsBefore s (solution_at list j)
before_all s [] j ordered lt = absurd (omega arith)
before_all s (t ∷ list) zero ordered lt = ordered.0
before_all s (t ∷ list) (suc j) ordered lt = before_trans s t (solution_at list j) ordered.0 (before_all t list j ordered.1 (omega arith))

behind_first : (s : Solution) (list : List Solution) → IsOrdered (s ∷ list) → IsOrdered list
behind_first s [] ordered = tt
behind_first s (t ∷ list) ordered = ordered.1

before_at : (list : List Solution) (i j : ℕ) → IsOrdered list → i < j → j < length list → IsBefore (solution_at list i) (solution_at list j)
before_at [] i j ordered lt within = absurd (omega arith)
before_at (s ∷ list) i zero ordered lt within = absurd (omega arith)
before_at (s ∷ list) zero (suc j) ordered lt within = before_all s list j ordered (omega arith)
before_at (s ∷ list) (suc i) (suc j) ordered lt within = before_at list i j (behind_first s list ordered) (omega arith) (omega arith)

pub listed_in_order : ListedInOrder
listed_in_order P c i j good lt within =
    let before = before_at c.list i j good.ordered lt within in
    (all_at (IsSolution P) c.list i good.solutions (omega (arith, lt, within)), all_at (IsSolution P) c.list j good.solutions within, cost_le (solution_at c.list i) (solution_at c.list j) before, before)

pub listed_are_distinct : ListedAreDistinct
listed_are_distinct P c i j good lt within same =
    let both = listed_in_order P c i j good lt within in
    let costs : (solution_at c.list i).cost ≡ (solution_at c.list j).cost = sym both.0.cost ∙ ap (cost P) same ∙ both.1.cost in
    let key : (solution_at c.list i).cost ∷ (solution_at c.list i).values ≡ (solution_at c.list j).cost ∷ (solution_at c.list j).values = ap₂ (λ x xs. x ∷ xs) costs same in
    never_before (solution_at c.list j) (subst (λ xs. slice_cmp nat_cmp xs ((solution_at c.list j).cost ∷ (solution_at c.list j).values) ≡ Less) key both.3)

-- the last one has the greatest cost
last_high : (none : ℕ) (list : List Solution) (j : ℕ) → IsOrdered list → j < length list → (solution_at list j).cost ≤ last_cost none list
last_high none [] j ordered lt = absurd (omega arith)
last_high none (s ∷ []) zero ordered lt = omega arith
last_high none (s ∷ []) (suc j) ordered lt = absurd (omega arith)
last_high none (s ∷ t ∷ list) zero ordered lt =
    let more = last_high s.cost (t ∷ list) 0 ordered.1 (omega arith) in
    let first = cost_le s t ordered.0 in
    omega (arith, more, first)
last_high none (s ∷ t ∷ list) (suc j) ordered lt = last_high s.cost (t ∷ list) j ordered.1 (omega arith)

pub cheapest : Cheapest
cheapest P c values j network good whole fits other lt =
    let dear = others_cost_more P c values network good fits other in
    elim (cases_Bool (length c.list == c.count)) [
      | inl full ↦ let k = rw full at whole in let high = last_high P.upper c.list j good.ordered lt in omega (arith, dear, k, high)
      | inr short ↦ let k = rw short at whole in let below = (all_at (IsSolution P) c.list j good.solutions lt).below in omega (arith, dear, k, below)
    ]

pub fewer : Fewer
fewer P c values network good whole few fits other =
    let dear = others_cost_more P c values network good fits other in
    let short : (length c.list == c.count) ≡ false = ne_eqb (length c.list) c.count (λ e. absurd (omega (arith, few, e))) in
    let k = rw short at whole in
    omega (arith, dear, k)

-- a list with one more that comes behind it
pub ordered_more : (list : List Solution) (s : Solution) → IsOrdered list → ComesBehind list s → IsOrdered (list ++ s ∷ [])
ordered_more [] s ordered behind = tt
ordered_more (t ∷ []) s ordered behind = (behind, tt)
ordered_more (t ∷ u ∷ list) s ordered behind = (ordered.0, ordered_more (u ∷ list) s ordered.1 behind)

pub comes_behind : (list : List Solution) (s : Solution) (more : List Solution) → IsOrdered (list ++ s ∷ more) → ComesBehind list s
comes_behind [] s more ordered = tt
comes_behind (t ∷ []) s more ordered = ordered.0
comes_behind (t ∷ u ∷ list) s more ordered = comes_behind (u ∷ list) s more ordered.1

-- A variable has one score.
use Rattle.std.proofs.Common.{◌≡◌, ℕ, ◌<◌, ◌≤◌, inl, inr, List, sym, ap, ◌∙◌, arith}
use Rattle.std.proofs.lemmas.Bool.{cases_eq}
use Rattle.std.proofs.lemmas.Int.{ints}
use Rattle.std.specs.Prelude.{ℤ, pos, ◌≤ℤ◌}
use Rattle.cfn_model.specs.Sums.{unary}
use Rattle.cfn_store.specs.Standing.{Standing, history}
use Rattle.cfn_branch.specs.declared.choosing.Score.{Score}
use Rattle.cfn_branch.specs.Choosing.{IsSecondLeast, HasScore}

through : (c d : ℕ) (u v : ℤ) → pos d ≤ℤ u → u ≤ℤ v → v ≡ pos c → d ≤ c
through c d u v low order is = omega (arith, ints, low, order, is)

above : (c d : ℕ) (v : ℤ) → pos d ≤ℤ v → v ≡ pos c → d ≤ c
above c d v low is = omega (arith, ints, low, is)

second_at_most : (s : Standing) (x c d : ℕ) → IsSecondLeast s x c → IsSecondLeast s x d → d ≤ c
second_at_most s x c d one two = elim (cases_eq one.least two.least) [
  | inl same ↦ above c d (unary s.network (history s) x one.second) (two.most one.second one.other (λ e. one.different (same ∙ sym e))) one.is
  | inr other ↦ through c d (unary s.network (history s) x one.least) (unary s.network (history s) x one.second) (two.most one.least one.one other) one.order one.is
]

pub one_second : (s : Standing) (x c d : ℕ) → IsSecondLeast s x c → IsSecondLeast s x d → c ≡ d
one_second s x c d one two = let a = second_at_most s x c d one two in let b = second_at_most s x d c two one in omega (arith, a, b)

abbrev score_of : ℕ → ℕ → ℕ → Score
score_of count degree second = record { count = count; degree = degree; second = second }

same_fields : (p q : Score) → p.count ≡ q.count → p.degree ≡ q.degree → p.second ≡ q.second → p ≡ q
same_fields p q count degree second =
    ap (λ n. score_of n p.degree p.second) count ∙ ap (λ n. score_of q.count n p.second) degree ∙ ap (λ n. score_of q.count q.degree n) second

pub one_score : (s : Standing) (weights : List ℕ) (x : ℕ) (p q : Score) → HasScore s weights x p → HasScore s weights x q → p ≡ q
one_score s weights x p q one two = same_fields p q (one.count ∙ sym two.count) (one.degree ∙ sym two.degree) (one_second s x p.second q.second one.second two.second)

pub has_degree : (s : Standing) (weights : List ℕ) (x : ℕ) (p : Score) → HasScore s weights x p → 0 < p.degree
has_degree s weights x p has = let e = has.degree in omega (arith, e)

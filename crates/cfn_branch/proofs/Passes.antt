-- The pass over the variables.
use Rattle.std.proofs.Common.{◌≡◌, ℕ, ◌+◌, ◌*◌, ◌<◌, ◌≤◌, inl, inr, List, Option, Some, None, refl, sym, ap, ◌∙◌, subst, arith}
use Rattle.std.proofs.lemmas.Bool.{cases_eq}
use Rattle.std.specs.Prelude.{length, MatchOption}
use Rattle.cfn_store.specs.Standing.{Standing}
use Rattle.cfn_branch.specs.declared.choosing.Score.{Score}
use Rattle.cfn_branch.specs.declared.choosing.Candidate.{Candidate}
use Rattle.cfn_branch.specs.Choosing.{choices, IsOpen, degree, HasScore, IsBetter, ComesBefore, IsChosen}
use Rattle.cfn_branch.specs.Passing.{IsFirstOf, IsFirstOfOpen, NoneYet, BestYet}
use Rattle.cfn_branch.proofs.Ordering.{before_better, not_before_itself}
use Rattle.cfn_branch.proofs.Scores.{one_score, has_degree}

module _ (s : Standing) (weights : List ℕ) (n : ℕ) where
  not_itself : (x : ℕ) (p other : Score) → HasScore s weights x p → HasScore s weights x other → ComesBefore other x p x → ⊥
  not_itself x p other is has = subst (λ q. ComesBefore q x p x → ⊥) (one_score s weights x p other is has) (not_before_itself p x)

  pub none_more : choices s n ≤ 1 → NoneYet s n → NoneYet s (n + 1)
  none_more few yet = record {
    none = λ y h. elim (cases_eq y n) [
      | inl same ↦ (let e = ap (choices s) same in omega (arith, e, few))
      | inr other ↦ yet.none y (omega (arith, h, other))
    ];
  }

  pub best_kept : (best : Candidate) → choices s n ≤ 1 → BestYet s weights n best → BestYet s weights (n + 1) best
  best_kept best few yet = record {
    below = (let h = yet.below in omega (arith, h));
    undecided = yet.undecided;
    is = yet.is;
    first = λ y other h undecided has. elim (cases_eq y n) [
      | inl same ↦ absurd (let e = ap (choices s) same in let two = undecided.undecided in omega (arith, e, few, two))
      | inr differs ↦ yet.first y other (omega (arith, h, differs)) undecided has
    ];
  }

  -- the first open variable
  pub best_begins : (p : Score) → NoneYet s n → IsOpen s n → HasScore s weights n p → BestYet s weights (n + 1) (record { variable = n; score = p })
  best_begins p yet undecided has = record {
    below = omega arith;
    undecided = undecided;
    is = has;
    first = λ y other h is_open its. elim (cases_eq y n) [
      | inl same ↦ subst (λ z. ComesBefore other z p n → ⊥) (sym same) (not_itself n p other has (subst (λ z. HasScore s weights z other) same its))
      | inr differs ↦ absurd (let few = yet.none y (omega (arith, h, differs)) in let two = is_open.undecided in omega (arith, few, two))
    ];
  }

  -- an open variable with a score that is better than the best, and one with a score that isn't
  better : (best : Candidate) (p : Score) → IsOpen s n → HasScore s weights n p → IsBetter p best.score → BestYet s weights n best → BestYet s weights (n + 1) (record { variable = n; score = p })
  better best p undecided has is_better yet = record {
    below = omega arith;
    undecided = undecided;
    is = has;
    first = λ y other h is_open its before. elim (cases_eq y n) [
      | inl same ↦ not_itself n p other has (subst (λ z. HasScore s weights z other) same its) (subst (λ z. ComesBefore other z p n) same before)
      | inr differs ↦ yet.first y other (omega (arith, h, differs)) is_open its
          (before_better other p best.score y n best.variable (has_degree s weights y other its) (has_degree s weights n p has) (has_degree s weights best.variable best.score yet.is) before is_better)
    ];
  }

  worse : (best : Candidate) (p : Score) → HasScore s weights n p → (IsBetter p best.score → ⊥) → BestYet s weights n best → BestYet s weights (n + 1) best
  worse best p has not_better yet = record {
    below = (let h = yet.below in omega (arith, h));
    undecided = yet.undecided;
    is = yet.is;
    first = λ y other h is_open its before. elim (cases_eq y n) [
      | inl same ↦
          (let is_p : other ≡ p = one_score s weights n other p (subst (λ z. HasScore s weights z other) same its) has in
          (elim (subst (λ q. ComesBefore q y best.score best.variable) is_p before) [
            | inl is_better ↦ not_better is_better
            | inr tie ↦ (let less = tie.2 in let below = yet.below in omega (arith, less, below, same))
          ]))
      | inr differs ↦ yet.first y other (omega (arith, h, differs)) is_open its before
    ];
  }

  pub best_next : (best next result : Candidate) → next.variable ≡ n → IsOpen s n → HasScore s weights n next.score → IsFirstOf (Some best) next result → BestYet s weights n best → BestYet s weights (n + 1) result
  best_next best next result is_n undecided has (inl new) yet = subst (BestYet s weights (n + 1)) (ap (λ x. record { variable = x; score = next.score }) (sym is_n) ∙ sym new.1) (better best next.score undecided has new.0 yet)
  best_next best next result is_n undecided has (inr old) yet = subst (BestYet s weights (n + 1)) (sym old.1) (worse best next.score has old.0 yet)

  -- a variable that is not open, and one that is, where there may be no best yet
  pub pass_on : (best : Option Candidate) → choices s n ≤ 1 → MatchOption best (NoneYet s n) (BestYet s weights n) → MatchOption best (NoneYet s (n + 1)) (BestYet s weights (n + 1))
  pass_on None few yet = none_more few yet
  pass_on (Some best) few yet = best_kept best few yet

  pub pass_open : (best : Option Candidate) (p : Score) (result : Candidate) → IsOpen s n → HasScore s weights n p → IsFirstOf best (record { variable = n; score = p }) result → MatchOption best (NoneYet s n) (BestYet s weights n) → BestYet s weights (n + 1) result
  pass_open None p result undecided has first yet = subst (BestYet s weights (n + 1)) (sym first) (best_begins p yet undecided has)
  pass_open (Some best) p result undecided has first yet = best_next best (record { variable = n; score = p }) result refl undecided has first yet

-- a ratio that is greater is not better
greater_ratio : (s : Standing) (weights : List ℕ) (x : ℕ) (best p : Score) → HasScore s weights x p → best.count * degree s weights x < choices s x * best.degree → IsBetter p best → ⊥
greater_ratio s weights x best p has greater (inl less) = omega (arith, greater, less, ap (λ n. n * best.degree) has.count, ap (λ n. best.count * n) has.degree)
greater_ratio s weights x best p has greater (inr tie) = (let same = tie.0 in omega (arith, greater, same, ap (λ n. n * best.degree) has.count, ap (λ n. best.count * n) has.degree))

module _ (s : Standing) (weights : List ℕ) (n : ℕ) where
  passed_by : (best : Candidate) → best.score.count * degree s weights n < choices s n * best.score.degree → BestYet s weights n best → BestYet s weights (n + 1) best
  passed_by best greater yet = record {
    below = (let h = yet.below in omega (arith, h));
    undecided = yet.undecided;
    is = yet.is;
    first = λ y other h is_open its before. elim (cases_eq y n) [
      | inl same ↦
          (elim before [
            | inl is_better ↦ greater_ratio s weights n best.score other (subst (λ z. HasScore s weights z other) same its) greater is_better
            | inr tie ↦ (let less = tie.2 in let below = yet.below in omega (arith, less, below, same))
          ])
      | inr differs ↦ yet.first y other (omega (arith, h, differs)) is_open its before
    ];
  }

  pub pass_first : (best : Option Candidate) (result : Candidate) → IsOpen s n → IsFirstOfOpen s weights best n result → MatchOption best (NoneYet s n) (BestYet s weights n) → BestYet s weights (n + 1) result
  pass_first best result undecided (inl asked) yet = pass_open s weights n best asked.0 result undecided asked.1 asked.2 yet
  pass_first best result undecided (inr passed) yet =
      subst (BestYet s weights (n + 1)) (sym passed.2) (passed_by passed.0 passed.3 (subst (λ b. MatchOption b (NoneYet s n) (BestYet s weights n)) passed.1 yet))

pub chosen : (s : Standing) (weights : List ℕ) (n : ℕ) (best : Candidate) → length s.network.sizes ≤ n → BestYet s weights n best → IsChosen s weights best.variable
chosen s weights n best all yet = record {
  undecided = yet.undecided;
  score = best.score;
  is = yet.is;
  first = λ y other is_open has. yet.first y other (let there = is_open.there in omega (arith, there, all)) is_open has;
}

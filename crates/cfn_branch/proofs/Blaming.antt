-- Which project is the newest.
use Rattle.std.proofs.Common.{◌≡◌, ℕ, zero, suc, ◌<◌, List, [], ◌∷◌, ◌++◌, length, take, drop, get_or, refl, sym, ap, ◌∙◌, subst, arith}
use lib.Seq.{split_at}
use Rattle.cfn_model.specs.declared.step.Step.{Step}
use Rattle.cfn_branch.specs.Weighing.{Projects, NoneProjects, IsNewestProject}

-- behind all steps there is none
pub none_behind : (steps : List Step) (n : ℕ) → n ≡ length steps → NoneProjects (drop n steps)
none_behind [] n is = subst (λ m. NoneProjects (drop m [])) (sym is) tt
none_behind (step ∷ steps) n is = subst (λ m. NoneProjects (drop m (step ∷ steps))) (sym is) (none_behind steps (length steps) refl)

drop_one : (steps : List Step) (i : ℕ) (d : Step) → i < length steps → drop i steps ≡ get_or steps i d ∷ drop (suc i) steps
drop_one [] i d there = absurd (omega (arith, there))
drop_one (step ∷ steps) zero d there = refl
drop_one (step ∷ steps) (suc i) d there = drop_one steps i d (omega (arith, there))

-- a step that does not project
pub none_more : (steps : List Step) (n i : ℕ) (step : Step) → n ≡ suc i → i < length steps → ((other : Step) → get_or steps i other ≡ step) → ((f : ℕ) → Projects f step → ⊥) → NoneProjects (drop n steps) → NoneProjects (drop i steps)
none_more steps n i step next there is not later =
    subst NoneProjects (sym (drop_one steps i step there)) (subst (λ s. (f : ℕ) → Projects f s → ⊥) (sym (is step)) not, subst (λ m. NoneProjects (drop m steps)) next later)

-- and one that does
pub newest : (steps : List Step) (n i f : ℕ) (step : Step) → n ≡ suc i → i < length steps → ((other : Step) → get_or steps i other ≡ step) → Projects f step → NoneProjects (drop n steps) → IsNewestProject steps f
newest steps n i f step next there is projects later = record {
  before = take i steps;
  step = step;
  later = drop (suc i) steps;
  steps_is = split_at steps i step there ∙ ap (λ s. take i steps ++ s ∷ drop (suc i) steps) (is step);
  projects = projects;
  newest = subst (λ m. NoneProjects (drop m steps)) next later;
}

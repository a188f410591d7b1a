-- The steps of a block are made one after another.
use Rattle.std.proofs.Common.{◌≡◌, ℕ, List, [], ◌∷◌, ◌++◌, append_assoc, refl, sym, ap, ◌∙◌, subst}
use Rattle.std.specs.Prelude.{true, false}
use Rattle.std.specs.List.{AllByRecursion}
use Rattle.cfn_model.specs.declared.step.Step.{Step}
use Rattle.cfn_model.specs.declared.step.Event.TheVariants.{Did}
use Rattle.cfn_model.specs.Paths.{HasSmallCosts, TameBlock}
use Rattle.cfn_model.specs.Steps.{Allowed, Run, after}
use Rattle.cfn_model.specs.Text.{IsSpelledStep}
use Rattle.cfn_proof.proofs.CallerLemmas.{run_append}
use Rattle.cfn_store.specs.Standing.{Standing, history}
use Rattle.cfn_rebase.specs.Making.{MayFollow, IsTried}
use Rattle.cfn_rebase.specs.Fronts.{IsCutFront}

-- where making the steps of a block is
pub record IsMaking (before now : Standing) (block left : List Step) (k : ℕ) : Type 0 where
  pub network : now.network ≡ before.network
  pub base : now.base ≡ before.base
  pub split : block ≡ now.block ++ left
  pub runs : Run before.network before.base now.block k
  pub spelled : AllByRecursion IsSpelledStep left

pub making_start : (s : Standing) (block : List Step) (k : ℕ) → s.block ≡ [] → AllByRecursion IsSpelledStep block → IsMaking s s block block k
making_start s block k none spelled = record {
  network = refl;
  base = refl;
  split = ap (λ l. l ++ block) (sym none);
  runs = subst (λ l. Run s.network s.base l k) (sym none) tt;
  spelled = spelled;
}

pub next_spelled : (before now : Standing) (block left rest : List Step) (step : Step) (k : ℕ) → IsMaking before now block left k → left ≡ step ∷ rest → IsSpelledStep step
next_spelled before now block left rest step k m is = (subst (AllByRecursion IsSpelledStep) is m.spelled).0

-- a step is allowed where the walk began
here : (before now : Standing) (block left : List Step) (step : Step) (k : ℕ) → IsMaking before now block left k → MayFollow now k step → Allowed before.network (after now.block before.base) k step × HasSmallCosts before.network (Did step ∷ after now.block before.base)
here before now block left step k m may =
    subst (λ b. Allowed before.network (after now.block b) k step × HasSmallCosts before.network (Did step ∷ after now.block b)) m.base
    (subst (λ P. Allowed P (history now) k step × HasSmallCosts P (Did step ∷ history now)) m.network may)

there : (before now : Standing) (block left : List Step) (step : Step) (k : ℕ) → IsMaking before now block left k → Allowed before.network (after now.block before.base) k step × HasSmallCosts before.network (Did step ∷ after now.block before.base) → MayFollow now k step
there before now block left step k m may =
    subst (λ P. Allowed P (history now) k step × HasSmallCosts P (Did step ∷ history now)) (sym m.network)
    (subst (λ b. Allowed before.network (after now.block b) k step × HasSmallCosts before.network (Did step ∷ after now.block b)) (sym m.base) may)

-- a step is made
pub making_made : (before now next : Standing) (block left rest : List Step) (step : Step) (k : ℕ) → IsMaking before now block left k → left ≡ step ∷ rest → IsTried now k step next true → IsMaking before next block rest k
making_made before now next block left rest step k m is tried = record {
  network = tried.1 ∙ m.network;
  base = tried.2 ∙ m.base;
  split = m.split ∙ ap (λ l. now.block ++ l) is ∙ sym (append_assoc now.block (step ∷ []) rest) ∙ ap (λ l. l ++ rest) (sym tried.3);
  runs = subst (λ b. Run before.network before.base b k) (sym tried.3) (run_append before.network before.base now.block (step ∷ []) k m.runs ((here before now block left step k m tried.0).0, tt));
  spelled = (subst (AllByRecursion IsSpelledStep) is m.spelled).1;
}

-- all steps are made
pub front_ends : (before now : Standing) (block left : List Step) (k : ℕ) → IsMaking before now block left k → left ≡ [] → TameBlock now.network now.base now.block → IsCutFront before.network before.base k block now.block true
front_ends before now block left k m none tame = record {
  split = m.split ∙ ap (λ l. now.block ++ l) none;
  runs = m.runs;
  tame = subst (λ b. TameBlock before.network b now.block) m.base (subst (λ P. TameBlock P now.base now.block) m.network tame);
  stops = tt;
}

-- a step is not made
pub front_stops : (before now next : Standing) (block left rest : List Step) (step : Step) (k : ℕ) → IsMaking before now block left k → left ≡ step ∷ rest → IsTried now k step next false → TameBlock next.network next.base next.block → IsCutFront before.network before.base k block next.block false
front_stops before now next block left rest step k m is tried tame =
    subst (λ b. IsCutFront before.network before.base k block b false) (sym tried.3) (
      step,
      rest,
      record {
        split = m.split ∙ ap (λ l. now.block ++ l) is;
        runs = m.runs;
        tame = subst (λ b. TameBlock before.network b now.block) (tried.2 ∙ m.base) (subst (λ P. TameBlock P next.base now.block) (tried.1 ∙ m.network) (subst (λ b. TameBlock next.network next.base b) tried.3 tame));
        stops = λ may. tried.0 (there before now block left step k m may);
      },
    )

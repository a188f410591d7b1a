-- What one step more does to the steps that a call adds.
use Rattle.std.proofs.Common.{◌≡◌, ℕ, ◌<◌, inl, inr, List, [], ◌∷◌, ◌++◌, length, length-append, append_assoc, refl, ap, ◌∙◌, subst, arith}
use Rattle.cfn_model.specs.declared.step.Step.{Step}
use Rattle.cfn_model.specs.declared.step.Event.{Event}
use Rattle.cfn_model.specs.declared.step.Event.TheVariants.{Did}
use Rattle.cfn_model.specs.Network.{Network}
use Rattle.cfn_model.specs.Steps.{Allowed, Run, after}
use Rattle.cfn_consistency.specs.Groups.{GainsAtNode, GainAtNodes}
use Rattle.cfn_store.specs.Standing.{Standing, history, with_step}
use Rattle.cfn_gain.specs.Settling.{AddsSteps}

pub after_append : (first second : List Step) (history : List Event) → after (first ++ second) history ≡ after second (after first history)
after_append [] second history = refl
after_append (step ∷ first) second history = after_append first second (Did step ∷ history)

pub append_none : (steps : List Step) → steps ≡ steps ++ []
append_none [] = refl
append_none (step ∷ steps) = ap (λ l. step ∷ l) (append_none steps)

-- a step is the newest event
pub history_step : (s : Standing) (step : Step) → history (with_step s step) ≡ Did step ∷ history s
history_step s step = after_append s.block (step ∷ []) s.base

pub adds_none : (s : Standing) (k limit : ℕ) → AddsSteps s s k limit
adds_none s k limit = record {
  network = refl;
  base = refl;
  steps = [];
  block = append_none s.block;
  runs = tt;
  gain = tt;
  spare = omega arith;
  within = inr refl;
}

history_is : (before s : Standing) (k limit : ℕ) (adds : AddsSteps before s k limit) → history s ≡ after adds.steps (history before)
history_is before s k limit adds =
    ap (λ b. after b s.base) adds.block ∙ ap (after (before.block ++ adds.steps)) adds.base ∙ after_append before.block adds.steps before.base

pub run_push : (P : Network) (history : List Event) (steps : List Step) (step : Step) (k : ℕ) → Run P history steps k → Allowed P (after steps history) k step → Run P history (steps ++ step ∷ []) k
run_push P history [] step k run allowed = (allowed, tt)
run_push P history (s ∷ steps) step k run allowed = (run.0, run_push P (Did s ∷ history) steps step k run.1 allowed)

gain_push : (history : List Event) (steps : List Step) (step : Step) → GainAtNodes history steps → GainsAtNode (after steps history) step → GainAtNodes history (steps ++ step ∷ [])
gain_push history [] step gain gains = (gains, tt)
gain_push history (s ∷ steps) step gain gains = (gain.0, gain_push (Did s ∷ history) steps step gain.1 gains)

pub adds_step : (before s : Standing) (k limit : ℕ) (step : Step) → AddsSteps before s k limit → Allowed s.network (history s) k step → GainsAtNode (history s) step → length s.block < limit → 0 < s.spare → AddsSteps before (with_step s step) k limit
adds_step before s k limit step adds allowed gains less some =
    let is = history_is before s k limit adds in
    let allowed' = subst (λ P. Allowed P (history s) k step) adds.network allowed in
    let more = length-append adds.steps (step ∷ []) in
    let longer = length-append s.block (step ∷ []) in
    record {
      network = adds.network;
      base = adds.base;
      steps = adds.steps ++ step ∷ [];
      block = ap (λ b. b ++ step ∷ []) adds.block ∙ append_assoc before.block adds.steps (step ∷ []);
      runs = run_push before.network (history before) adds.steps step k adds.runs (subst (λ h. Allowed before.network h k step) is allowed');
      gain = gain_push (history before) adds.steps step adds.gain (subst (λ h. GainsAtNode h step) is gains);
      spare = omega (arith, adds.spare, more, some);
      within = inl (omega (arith, longer, less));
    }

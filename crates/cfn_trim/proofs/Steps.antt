-- What a step does to a store's sums and to the steps that were added.
use Rattle.std.proofs.Common.{◌≡◌, ℕ, ◌<◌, inl, inr, List, [], ◌∷◌, ◌++◌, length-append, append_assoc, Bool, true, false, refl, sym, ap, ◌∙◌, subst, arith}
use Rattle.std.proofs.lemmas.Int.{ints}
use Rattle.std.specs.Prelude.{ℤ, pos, ◌+ℤ◌, neg_ℤ, ◌==◌, ◌&&◌, slice_index}
use Rattle.cfn_model.specs.declared.step.Step.{Step}
use Rattle.cfn_model.specs.declared.step.Step.TheVariants.{Project, Extend, Lift, CutValue, CutTuple}
use Rattle.cfn_model.specs.declared.step.Event.{Event}
use Rattle.cfn_model.specs.declared.step.Event.TheVariants.{Did}
use Rattle.cfn_model.specs.Network.{Network, variable_at}
use Rattle.cfn_model.specs.Sums.{when, floor, unary, residual, is_live}
use Rattle.cfn_model.specs.Steps.{Allowed, Run, after}
use Rattle.cfn_store.specs.Standing.{Standing, history, with_step}
use Rattle.cfn_trim.specs.Leaves.{IsPlain, ArePlain, AddsShifts}
use Rattle.cfn_trim.specs.Shifting.{IsMade, Shifts}

after_append : (first second : List Step) (history : List Event) → after (first ++ second) history ≡ after second (after first history)
after_append [] second history = refl
after_append (step ∷ first) second history = after_append first second (Did step ∷ history)

append_none : (steps : List Step) → steps ≡ steps ++ []
append_none [] = refl
append_none (step ∷ steps) = ap (λ l. step ∷ l) (append_none steps)

pub history_step : (s : Standing) (step : Step) → history (with_step s step) ≡ Did step ∷ history s
history_step s step = after_append s.block (step ∷ []) s.base

pub adds_none : (s : Standing) → AddsShifts s s
adds_none s = record { network = refl; base = refl; steps = []; block = append_none s.block; runs = λ k. tt; plain = tt; spare = omega arith }

run_push : (P : Network) (history : List Event) (steps : List Step) (step : Step) (k : ℕ) → Run P history steps k → Allowed P (after steps history) k step → Run P history (steps ++ step ∷ []) k
run_push P history [] step k run allowed = (allowed, tt)
run_push P history (s ∷ steps) step k run allowed = (run.0, run_push P (Did s ∷ history) steps step k run.1 allowed)

plain_push : (steps : List Step) (step : Step) → ArePlain steps → IsPlain step → ArePlain (steps ++ step ∷ [])
plain_push [] step plain is = (is, tt)
plain_push (s ∷ steps) step plain is = (plain.0, plain_push steps step plain.1 is)

adds_step : (before s : Standing) (step : Step) → ((k : ℕ) → Allowed s.network (history s) k step) → IsPlain step → 0 < s.spare → AddsShifts before s → AddsShifts before (with_step s step)
adds_step before s step allowed plain some adds =
    let is : history s ≡ after adds.steps (history before) = ap (λ b. after b s.base) adds.block ∙ ap (after (before.block ++ adds.steps)) adds.base ∙ after_append before.block adds.steps before.base in
    let more = length-append adds.steps (step ∷ []) in
    record {
      network = adds.network;
      base = adds.base;
      steps = adds.steps ++ step ∷ [];
      block = ap (λ b. b ++ step ∷ []) adds.block ∙ append_assoc before.block adds.steps (step ∷ []);
      runs = λ k. run_push before.network (history before) adds.steps step k (adds.runs k) (subst (λ h. Allowed before.network h k step) is (subst (λ P. Allowed P (history s) k step) adds.network (allowed k)));
      plain = plain_push adds.steps step adds.plain plain;
      spare = omega (arith, adds.spare, more, some);
    }

live_after : (step : Step) (history : List Event) (y b : ℕ) → IsPlain step → is_live (Did step ∷ history) y b ≡ is_live history y b
live_after (Project f i a m) history y b plain = refl
live_after (Extend f i a m) history y b plain = absurd plain
live_after (Lift x m) history y b plain = refl
live_after (CutValue x a) history y b plain = absurd plain
live_after (CutTuple f c) history y b plain = absurd plain

shifts_step : (s : Standing) (step : Step) → ((k : ℕ) → Allowed s.network (history s) k step) → IsPlain step → 0 < s.spare → Shifts s (with_step s step) step
shifts_step s step allowed plain some =
    let is = history_step s step in
    record {
      network = refl;
      floors = ap (floor s.network) is;
      unaries = λ y b. ap (λ h. unary s.network h y b) is;
      residuals = λ g tuple. ap (λ h. residual s.network h g tuple) is;
      live = λ y b. ap (λ h. is_live h y b) is ∙ live_after step (history s) y b plain;
      adds = λ before adds. adds_step before s step allowed plain some adds;
      spare = omega arith;
    }

when_none : (b : Bool) (z u : ℤ) → z ≡ pos 0 → u ≡ (when b z +ℤ u)
when_none true z u h = omega (arith, ints, h)
when_none false z u h = omega (arith, ints)

pub lift_shifts : (s t : Standing) (x m : ℕ) → IsMade s t m (Lift x m) → (0 < m → (k : ℕ) → Allowed s.network (history s) k (Lift x m)) → 0 < s.spare → Shifts s t (Lift x m)
lift_shifts s t x m (inl none) allowed some = subst (λ n. Shifts s t (Lift x n)) (sym none.0) (subst (λ u. Shifts s u (Lift x 0)) (sym none.1) left_out)
  where
    left_out : Shifts s s (Lift x 0)
    left_out = record {
      network = refl;
      floors = omega arith;
      unaries = λ y b. when_none (x == y) (neg_ℤ (pos 0)) (unary s.network (history s) y b) refl;
      residuals = λ g tuple. (let r = residual s.network (history s) g tuple in omega (arith, ints));
      live = λ y b. refl;
      adds = λ before adds. adds;
      spare = omega arith;
    }
lift_shifts s t x m (inr made) allowed some = subst (λ u. Shifts s u (Lift x m)) (sym made.1) (shifts_step s (Lift x m) (allowed made.0) tt some)

pub project_shifts : (s t : Standing) (f a m : ℕ) → IsMade s t m (Project f 0 a m) → (0 < m → (k : ℕ) → Allowed s.network (history s) k (Project f 0 a m)) → 0 < s.spare → Shifts s t (Project f 0 a m)
project_shifts s t f a m (inl none) allowed some = subst (λ n. Shifts s t (Project f 0 a n)) (sym none.0) (subst (λ u. Shifts s u (Project f 0 a 0)) (sym none.1) left_out)
  where
    left_out : Shifts s s (Project f 0 a 0)
    left_out = record {
      network = refl;
      floors = omega arith;
      unaries = λ y b. when_none ((variable_at s.network f 0 == y) && (a == b)) (pos 0) (unary s.network (history s) y b) refl;
      residuals = λ g tuple. when_none ((f == g) && (slice_index tuple 0 == a)) (neg_ℤ (pos 0)) (residual s.network (history s) g tuple) refl;
      live = λ y b. refl;
      adds = λ before adds. adds;
      spare = omega arith;
    }
project_shifts s t f a m (inr made) allowed some = subst (λ u. Shifts s u (Project f 0 a m)) (sym made.1) (shifts_step s (Project f 0 a m) (allowed made.0) tt some)

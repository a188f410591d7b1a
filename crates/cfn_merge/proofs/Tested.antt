-- The test for one split says yes exactly to the same block and the same decision.
use Rattle.std.proofs.Common.{◌≡◌, List, [], ◌∷◌, Bool, true, false, refl, sym, ap₂, ◌∙◌, subst}
use Rattle.std.proofs.lemmas.Bool.{and_from}
use Rattle.std.proofs.lemmas.Slice.Eq.{bytes_eq-Decides}
use Rattle.std.specs.Prelude.{◌&&◌, IsTrue}
use Rattle.cfn_model.specs.declared.step.Step.{Step}
use Rattle.cfn_model.specs.declared.step.Step.TheVariants.{Project, Extend, Lift, CutValue, CutTuple}
use Rattle.cfn_model.specs.declared.step.Decision.{Decision}
use Rattle.cfn_model.specs.declared.step.Decision.TheVariants.{Is, Most}
use Rattle.cfn_mending.specs.Laws.{IsTest}
use Rattle.cfn_merge.specs.Same.{step_numbers, decision_numbers, same_steps, same}

both : (x y : Bool) → (x && y) ≡ true → (x ≡ true) × (y ≡ true)
both true y test = (refl, test)
both false y test = absurd cc

-- the same numbers are of the same step, and of the same decision
step_is : (s t : Step) → step_numbers s ≡ step_numbers t → s ≡ t
step_is (Project f i a m) (Project g j b n) e = cc
step_is (Extend f i a m) (Extend g j b n) e = cc
step_is (Lift x m) (Lift y n) e = cc
step_is (CutValue x a) (CutValue y b) e = cc
step_is (CutTuple f c) (CutTuple g d) e = cc
step_is s t e = absurd cc

decision_is : (d e : Decision) → decision_numbers d ≡ decision_numbers e → d ≡ e
decision_is (Is x a) (Is y b) h = cc
decision_is (Most x v) (Most y w) h = cc
decision_is d e h = absurd cc

same_steps_are : (block more : List Step) → same_steps block more ≡ true → block ≡ more
same_steps_are [] [] test = refl
same_steps_are [] (other ∷ others) test = absurd cc
same_steps_are (step ∷ steps) [] test = absurd cc
same_steps_are (step ∷ steps) (other ∷ others) test =
    let one = step_is step other ((bytes_eq-Decides (step_numbers step) (step_numbers other)).0 (both _ _ test).0) in
    let rest = same_steps_are steps others (both _ _ test).1 in
    ap₂ (λ s l. s ∷ l) one rest

same_steps_of : (block : List Step) → same_steps block block ≡ true
same_steps_of [] = refl
same_steps_of (step ∷ steps) = and_from _ _ ((bytes_eq-Decides (step_numbers step) (step_numbers step)).1 refl) (same_steps_of steps)

pub is_test : IsTest same
is_test block more d e test =
    (same_steps_are block more (both _ _ test).0, decision_is d e ((bytes_eq-Decides (decision_numbers d) (decision_numbers e)).0 (both _ _ test).1))

pub says_yes : (block more : List Step) (d e : Decision) → block ≡ more → d ≡ e → same block d more e ≡ true
says_yes block more d e one two =
    subst (λ m. same block d m e ≡ true) one (subst (λ f. same block d block f ≡ true) two
    (and_from _ _ (same_steps_of block) ((bytes_eq-Decides (decision_numbers d) (decision_numbers d)).1 refl)))

pub says_no : (block more : List Step) (d e : Decision) → ((block ≡ more) × (d ≡ e) → ⊥) → same block d more e ≡ false
says_no block more d e other = by_test (same block d more e) refl
  where
    by_test : (t : Bool) → same block d more e ≡ t → same block d more e ≡ false
    by_test true is = absurd (other (is_test block more d e is))
    by_test false is = is

-- what a test of the blocks tells, where the decisions are the same
pub told : (r : Bool) (block more : List Step) (d e : Decision) → d ≡ e → (IsTrue r → block ≡ more) → (block ≡ more → IsTrue r) → r ≡ same block d more e
told r block more d e two from to = by_answer r refl
  where
    by_answer : (t : Bool) → r ≡ t → r ≡ same block d more e
    by_answer true is = is ∙ sym (says_yes block more d e (from is) two)
    by_answer false is = is ∙ sym (says_no block more d e (λ both. absurd (let h : false ≡ true = sym is ∙ to both.0 in cc)))

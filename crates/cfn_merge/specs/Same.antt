-- Whether two nodes are one split.
use Rattle.std.specs.Prelude.{ℕ, List, [], ◌∷◌, Bool, true, false, ◌&&◌, bytes_eq}
use Rattle.cfn_model.specs.declared.step.Step.{Step}
use Rattle.cfn_model.specs.declared.step.Step.TheVariants.{Project, Extend, Lift, CutValue, CutTuple}
use Rattle.cfn_model.specs.declared.step.Decision.{Decision}
use Rattle.cfn_model.specs.declared.step.Decision.TheVariants.{Is, Most}
use Rattle.cfn_mending.specs.Joining.{Test}

-- The numbers of a step and of a decision, behind one for the kind.
abbrev pub step_numbers : Step → List ℕ
step_numbers (Project f i a m) = 0 ∷ f ∷ i ∷ a ∷ m ∷ []
step_numbers (Extend f i a m) = 1 ∷ f ∷ i ∷ a ∷ m ∷ []
step_numbers (Lift x m) = 2 ∷ x ∷ m ∷ []
step_numbers (CutValue x a) = 3 ∷ x ∷ a ∷ []
step_numbers (CutTuple f c) = 4 ∷ f ∷ c ∷ []

abbrev pub decision_numbers : Decision → List ℕ
decision_numbers (Is x a) = 0 ∷ x ∷ a ∷ []
decision_numbers (Most x v) = 1 ∷ x ∷ v ∷ []

-- Blocks are the same step by step.
abbrev pub same_steps : List Step → List Step → Bool
same_steps [] [] = true
same_steps [] (other ∷ others) = false
same_steps (step ∷ steps) [] = false
same_steps (step ∷ steps) (other ∷ others) = bytes_eq (step_numbers step) (step_numbers other) && same_steps steps others

-- Two nodes are one split where their blocks are the same, and their decisions.
abbrev pub same : Test
same block d more e = same_steps block more && bytes_eq (decision_numbers d) (decision_numbers e)

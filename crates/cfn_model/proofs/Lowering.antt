-- What is allowed or valid at a threshold is so at every smaller one.
use Rattle.std.proofs.Common.{ℕ, ◌≤◌, inl, inr, List, [], ◌∷◌, arith}
use Rattle.std.proofs.lemmas.Int.{ints}
use Rattle.std.specs.Prelude.{ℤ, pos, ◌≤ℤ◌}
use Rattle.cfn_model.specs.declared.step.Step.{Step}
use Rattle.cfn_model.specs.declared.step.Step.TheVariants.{Project, Extend, Lift, CutValue, CutTuple}
use Rattle.cfn_model.specs.declared.step.Event.{Event}
use Rattle.cfn_model.specs.declared.step.Event.TheVariants.{Did, Took, Refused}
use Rattle.cfn_model.specs.Network.{Network}
use Rattle.cfn_model.specs.Steps.{Allowed, after}
use Rattle.cfn_model.specs.Tree.{Open, Closed, Split, CanClose}
use Rattle.cfn_model.specs.Laws.{RunLowering, ValidLowering}

lower_le : (k low : ℕ) (z : ℤ) → low ≤ k → pos k ≤ℤ z → pos low ≤ℤ z
lower_le k low z h le = omega (arith, ints)

pub allowed_lower : (P : Network) (history : List Event) (step : Step) (k low : ℕ) → low ≤ k → Allowed P history k step → Allowed P history low step
allowed_lower P history (Project f i a m) k low h allowed = allowed
allowed_lower P history (Extend f i a m) k low h allowed = allowed
allowed_lower P history (Lift x m) k low h allowed = allowed
allowed_lower P history (CutValue x a) k low h allowed = (allowed.0, lower_le k low _ h allowed.1)
allowed_lower P history (CutTuple f c) k low h allowed = (allowed.0, λ tuple fits is. lower_le k low _ h (allowed.1 tuple fits is))

pub run_lower : RunLowering
run_lower P history [] k low h run = tt
run_lower P history (step ∷ steps) k low h run = (allowed_lower P history step k low h run.0, run_lower P (Did step ∷ history) steps k low h run.1)

pub close_lower : (P : Network) (history : List Event) (k low : ℕ) → low ≤ k → CanClose P history k → CanClose P history low
close_lower P history k low h (inl reached) = inl (omega arith)
close_lower P history k low h (inr wiped) = inr wiped

pub valid_lower : ValidLowering
valid_lower P history (Open block) k low h valid = run_lower P history block k low h valid
valid_lower P history (Closed block) k low h valid = (run_lower P history block k low h valid.0, close_lower P (after block history) k low h valid.1)
valid_lower P history (Split block d first second) k low h valid =
    (run_lower P history block k low h valid.0, valid.1, valid_lower P (Took d ∷ after block history) first k low h valid.2, valid_lower P (Refused d ∷ after block history) second k low h valid.3)

-- The steps of a block that runs are in range.
use Rattle.std.proofs.Common.{◌≡◌, ℕ, zero, suc, ◌<◌, List, [], ◌∷◌, length, subst, arith}
use Rattle.std.specs.Prelude.{slice_index_or}
use Rattle.cfn_model.specs.declared.step.Step.{Step}
use Rattle.cfn_model.specs.declared.step.Step.TheVariants.{Project, Extend, Lift, CutValue, CutTuple}
use Rattle.cfn_model.specs.declared.step.Event.{Event}
use Rattle.cfn_model.specs.declared.step.Event.TheVariants.{Did}
use Rattle.cfn_model.specs.Network.{Network}
use Rattle.cfn_model.specs.Steps.{InRange, Allowed, Run}
use Rattle.cfn_trim.specs.Making.{AreInRange}

allowed_range : (P : Network) (history : List Event) (k : ℕ) (step : Step) → Allowed P history k step → InRange P step
allowed_range P history k (Project f i a m) allowed = allowed.0
allowed_range P history k (Extend f i a m) allowed = allowed.0
allowed_range P history k (Lift x m) allowed = allowed.0
allowed_range P history k (CutValue x a) allowed = allowed.0
allowed_range P history k (CutTuple f c) allowed = allowed.0

pub run_range : (P : Network) (history : List Event) (steps : List Step) (k : ℕ) → Run P history steps k → AreInRange P steps
run_range P history [] k run = tt
run_range P history (step ∷ steps) k run = (allowed_range P history k step run.0, run_range P (Did step ∷ history) steps k run.1)

range_at : (P : Network) (steps : List Step) (i : ℕ) (other : Step) → AreInRange P steps → i < length steps → InRange P (slice_index_or steps i other)
range_at P [] i other range l = absurd (omega (arith, l))
range_at P (first ∷ steps) zero other range l = range.0
range_at P (first ∷ steps) (suc i) other range l = range_at P steps i other range.1 (omega (arith, l))

pub step_range : (P : Network) (steps : List Step) (i : ℕ) (step : Step) → AreInRange P steps → i < length steps → ((other : Step) → slice_index_or steps i other ≡ step) → InRange P step
step_range P steps i step range l is = subst (InRange P) (is step) (range_at P steps i step range l)

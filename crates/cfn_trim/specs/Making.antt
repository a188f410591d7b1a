-- When a step can be made in a store at a threshold.
use Rattle.std.specs.Prelude.{ℕ, List}
use Rattle.std.specs.List.{AllByRecursion}
use Rattle.cfn_model.specs.declared.step.Step.{Step}
use Rattle.cfn_model.specs.declared.step.Step.TheVariants.{Project, Extend, Lift, CutValue, CutTuple}
use Rattle.cfn_model.specs.Network.{Network}
use Rattle.cfn_model.specs.Steps.{IsValue, IsCell, CanCutValue, CanCutTuple, InRange}
use Rattle.cfn_store.specs.Standing.{Standing, history, FitsProject, FitsExtend, FitsLift}

-- A shift fits the store, and what is cut reaches the threshold.
abbrev pub CanMake : Standing → ℕ → Step → Type 0
CanMake s k (Project f i a m) = FitsProject s f i a m
CanMake s k (Extend f i a m) = FitsExtend s f i a m
CanMake s k (Lift x m) = FitsLift s x m
CanMake s k (CutValue x a) = IsValue s.network x a × CanCutValue s.network (history s) k x a
CanMake s k (CutTuple f c) = IsCell s.network f c × CanCutTuple s.network (history s) k f c

-- The numbers of all steps are in range.
abbrev pub AreInRange : Network → List Step → Type 0
AreInRange P steps = AllByRecursion (InRange P) steps

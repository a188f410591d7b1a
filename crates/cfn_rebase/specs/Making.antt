-- When a step can be made where a store stands, at a threshold.
use Rattle.std.specs.Prelude.{◌≡◌, ℕ, Bool, true, false, [], List, ◌∷◌, ◌++◌, pos}
use Rattle.cfn_model.specs.declared.step.Step.{Step}
use Rattle.cfn_model.specs.declared.step.Step.TheVariants.{Project, Extend, Lift, CutValue, CutTuple}
use Rattle.cfn_model.specs.declared.step.Decision.{Decision}
use Rattle.cfn_model.specs.declared.step.Event.TheVariants.{Did}
use Rattle.cfn_model.specs.Network.{Fits, cell, dims_at}
use Rattle.cfn_model.specs.Sums.{residual}
use Rattle.cfn_model.specs.Paths.{HasSmallCosts}
use Rattle.cfn_model.specs.Steps.{IsValue, IsCell, CanCutValue, CanCutTuple, Allowed}
use Rattle.cfn_proof.specs.declared.path.Side.{Side}
use Rattle.cfn_proof.specs.declared.path.Side.TheVariants.{Holds, Fails}
use Rattle.cfn_store.specs.Standing.{Standing, history, FitsProject, FitsExtend, FitsLift}

-- A shift fits the store, and what is cut reaches the threshold.
abbrev pub CanMake : Standing → ℕ → Step → Type 0
CanMake s k (Project f i a m) = FitsProject s f i a m
CanMake s k (Extend f i a m) = FitsExtend s f i a m
CanMake s k (Lift x m) = FitsLift s x m
CanMake s k (CutValue x a) = IsValue s.network x a × CanCutValue s.network (history s) k x a
CanMake s k (CutTuple f c) = IsCell s.network f c × CanCutTuple s.network (history s) k f c

-- A step is allowed, and leaves costs small.
abbrev pub MayFollow : Standing → ℕ → Step → Type 0
MayFollow s k step = Allowed s.network (history s) k step × HasSmallCosts s.network (Did step ∷ history s)

-- Where a step was tried: it may be made, and the block has it behind its steps; or it may not, and all is as it was.
abbrev pub IsTried : Standing → ℕ → Step → Standing → Bool → Type 0
IsTried old k step new true = MayFollow old k step × (new.network ≡ old.network) × (new.base ≡ old.base) × (new.block ≡ old.block ++ step ∷ [])
IsTried old k step new false = (MayFollow old k step → ⊥) × (new.network ≡ old.network) × (new.base ≡ old.base) × (new.block ≡ old.block)

-- The decision of a side of a split.
abbrev pub decision_of : Side → Decision
decision_of (Holds d) = d
decision_of (Fails d) = d

-- A number is the residual cost of the tuple of f with the number c.
abbrev pub IsCost : Standing → ℕ → ℕ → ℕ → Type 0
IsCost s f c cost = (tuple : List ℕ) → Fits (dims_at s.network f) tuple → cell (dims_at s.network f) tuple ≡ c → pos cost ≡ residual s.network (history s) f tuple

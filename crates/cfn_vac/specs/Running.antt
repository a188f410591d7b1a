-- Making the steps of a plan, each amount times a factor.
use Rattle.std.specs.Prelude.{◌≡◌, ℕ, ◌*◌, ◌-◌, ◌<◌, ◌≤◌, List, [], ◌∷◌, ◌++◌, length, map}
use Rattle.std.specs.List.{All, AllByRecursion}
use Rattle.cfn_model.specs.declared.limits.TheConstants.{GREATEST}
use Rattle.cfn_model.specs.declared.step.Step.{Step}
use Rattle.cfn_model.specs.declared.step.Step.TheVariants.{Project, Extend, Lift, CutValue, CutTuple}
use Rattle.cfn_model.specs.Network.{Network}
use Rattle.cfn_model.specs.Steps.{InRange}
use Rattle.cfn_consistency.specs.Virtual.{scaled}
use Rattle.cfn_store.specs.Standing.{Standing, with_step, FitsProject, FitsExtend, FitsLift}
use Rattle.cfn_store.specs.Rooms.{IsProjectRoom, IsExtendRoom, IsLiftRoom}
use Rattle.cfn_vac.specs.declared.run.Refusal.{Refusal}

-- What a step shifts.
abbrev pub amount_of : Step → ℕ
amount_of (Project f i a m) = m
amount_of (Extend f i a m) = m
amount_of (Lift x m) = m
amount_of (CutValue x a) = 0
amount_of (CutTuple f c) = 0

-- A step shifts an amount that has a spelling, and its numbers are in range.
pub record IsShift (P : Network) (step : Step) : Type 0 where
  pub range : InRange P step
  pub some : 0 < amount_of step
  pub spelled : amount_of step ≤ GREATEST

abbrev pub AreShifts : Network → List Step → Type 0
AreShifts P steps = AllByRecursion (IsShift P) steps

-- A shift can be made in a store.
abbrev pub CanMake : Standing → Step → Type 0
CanMake s (Project f i a m) = FitsProject s f i a m
CanMake s (Extend f i a m) = FitsExtend s f i a m
CanMake s (Lift x m) = FitsLift s x m
CanMake s (CutValue x a) = ⊥
CanMake s (CutTuple f c) = ⊥

-- The greatest amount with which it can be made there; 0 where none can.
abbrev pub IsRoom : Standing → Step → ℕ → Type 0
IsRoom s (Project f i a m) room = IsProjectRoom s f i a room
IsRoom s (Extend f i a m) room = IsExtendRoom s f i a room
IsRoom s (Lift x m) room = IsLiftRoom s x room
IsRoom s (CutValue x a) room = ⊥
IsRoom s (CutTuple f c) room = ⊥

-- A store with steps more.
abbrev pub with_steps : Standing → List Step → Standing
with_steps s steps = record { network = s.network; base = s.base; block = s.block ++ steps; spare = s.spare - length steps }

-- A store has steps more than it had, for which there was room.
pub record HasGrown (before now : Standing) : Type 0 where
  pub steps : List Step
  pub now_is : now ≡ with_steps before steps
  pub room : length steps ≤ before.spare

-- Each step can be made behind those before it.
abbrev pub CanMakeAll : Standing → List Step → Type 0
CanMakeAll s [] = Unit {0}
CanMakeAll s (step ∷ steps) = CanMake s step × CanMakeAll (with_step s step) steps

-- No step of a plan shifts more than q with its amount times a factor.
abbrev pub AreWithin : ℕ → List Step → ℕ → Type 0
AreWithin q plan factor = All (λ step. factor * amount_of step ≤ q) plan

-- The greatest factor up to q with which no step of a plan shifts more than q; 1 where with each one does.
pub record IsFactor (q : ℕ) (plan : List Step) (factor : ℕ) : Type 0 where
  pub some : 0 < factor
  pub within : 1 < factor → AreWithin q plan factor
  pub most : (more : ℕ) → more ≤ q → AreWithin q plan more → more ≤ factor

-- The first step of a plan that cannot be made with its amount times a factor, its number, and the room for it behind those before it.
pub record IsRefusal (s : Standing) (factor : ℕ) (plan : List Step) (refusal : Refusal) : Type 0 where
  pub before : List Step
  pub later : List Step
  pub plan_is : plan ≡ before ++ refusal.step ∷ later
  pub number : length before ≡ refusal.number
  pub shift : IsShift s.network refusal.step
  pub made : CanMakeAll s (map (scaled factor) before)
  pub room : IsRoom (with_steps s (map (scaled factor) before)) refusal.step refusal.capacity
  pub short : refusal.capacity < factor * amount_of refusal.step

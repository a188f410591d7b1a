-- What an enforcing call needs, what it does to a store, and what it shows.
use Rattle.std.specs.Prelude.{◌≡◌, ◌+◌, ◌<◌, ◌≤◌, ◌⊎◌, List, ◌++◌, length, Result, Ok, Err, OnOk}
use Rattle.cfn_model.specs.declared.step.Step.{Step}
use Rattle.cfn_model.specs.Sums.{floor}
use Rattle.cfn_model.specs.Steps.{Run}
use Rattle.cfn_consistency.specs.Consistency.{IsDead}
use Rattle.cfn_store.specs.Standing.{Standing, history}
use Rattle.cfn_gain.specs.declared.limits.Limits.{Limits}
use Rattle.cfn_gain.specs.declared.limits.Halt.{Halt}
use Rattle.cfn_gain.specs.declared.limits.Halt.TheVariants.{Dead, Spent}

-- The floor is below the threshold, which is at most the upper bound, and there is room for all steps up to the limit.
pub record GoesOn (s : Standing) (limits : Limits) : Type 0 where
  pub upper : limits.threshold ≤ s.network.upper
  pub below : floor s.network (history s) < limits.threshold
  pub room : limits.steps ≤ length s.block + s.spare

-- Between two standings there are steps alone, which run at the threshold; the block has at most so many, or none was
-- added.
pub record Adds (before after : Standing) (limits : Limits) : Type 0 where
  pub network : after.network ≡ before.network
  pub base : after.base ≡ before.base
  pub steps : List Step
  pub block : after.block ≡ before.block ++ steps
  pub runs : Run before.network (history before) steps limits.threshold
  pub spare : after.spare + length steps ≡ before.spare
  pub within : (length after.block ≤ limits.steps) ⊎ (length after.block ≡ length before.block)

-- Where a call goes on the floor is below the threshold. Dead: the floor reaches it, or a variable has no live value.
-- Spent: the block is as long as it may be.
abbrev pub Ends : Standing → Limits → Result (Unit {0}) Halt → Type 0
Ends after limits (Ok done) = floor after.network (history after) < limits.threshold
Ends after limits (Err Dead) = IsDead after.network (history after) limits.threshold
Ends after limits (Err Spent) = limits.steps ≤ length after.block

-- What every call does.
pub record Does (before after : Standing) (limits : Limits) (result : Result (Unit {0}) Halt) : Type 0 where
  pub adds : Adds before after limits
  pub ends : Ends after limits result

-- No step was added, and some was.
abbrev pub IsUnchanged : Standing → Standing → Type 0
IsUnchanged before after = length after.block ≡ length before.block

abbrev pub Grows : Standing → Standing → Type 0
Grows before after = length before.block < length after.block

-- A fact that holds where a call goes on and no step was added.
abbrev pub Shows : Standing → Standing → Result (Unit {0}) Halt → Type 0 → Type 0
Shows before after result Fact = OnOk result (IsUnchanged before after → Fact)

-- Where a call that began at one standing is: it can go on, it added steps, and a fact holds where it added none.
pub record Passing (before now : Standing) (limits : Limits) (Fact : Type 0) : Type 0 where
  pub goes : GoesOn now limits
  pub adds : Adds before now limits
  pub fact : IsUnchanged before now → Fact

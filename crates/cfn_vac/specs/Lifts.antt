-- What lifting by a plan does.
use Rattle.std.specs.Prelude.{◌≡◌, ◌⊎◌, ℕ, ◌+◌, ◌<◌, List, [], ◌∷◌, length, map}
use Rattle.cfn_model.specs.declared.step.Step.{Step}
use Rattle.cfn_model.specs.Network.{Network}
use Rattle.cfn_model.specs.declared.step.Event.TheVariants.{Did}
use Rattle.cfn_model.specs.Sums.{floor, lifted}
use Rattle.cfn_consistency.specs.declared.deletion.Deletion.{Deletion}
use Rattle.cfn_consistency.specs.Virtual.{Bans, scaled, without, IsDerivation, IsPlan}
use Rattle.cfn_derivation.specs.Derived.{EmptiesLast}
use Rattle.cfn_store.specs.Standing.{Standing, history}
use Rattle.cfn_gain.specs.declared.limits.Limits.{Limits}
use Rattle.cfn_vac.specs.declared.run.Refusal.{Refusal}
use Rattle.cfn_vac.specs.declared.lifter.Lifting.{Lifting}
use Rattle.cfn_vac.specs.declared.lifter.Lifting.TheVariants.{Lifted, Closed, Blocked, Spent}
use Rattle.cfn_vac.specs.Running.{amount_of, with_steps, IsFactor, IsRefusal}

-- The greatest factor with which no step of a plan shifts more than q; or 1, where the plan cannot be made with that.
pub record IsTried (before : Standing) (q : ℕ) (plan : List Step) (factor : ℕ) : Type 0 where
  pub greatest : ℕ
  pub is : IsFactor q plan greatest
  pub tried : (factor ≡ greatest) ⊎ ((factor ≡ 1) × ((refusal : Refusal) × IsRefusal before greatest plan refusal))

-- The steps of a plan were made with their amounts times a factor, of which a fact holds, and by which the floor rose.
pub record IsLifted (Fact : ℕ → Type 0) (before after : Standing) (plan : List Step) : Type 0 where
  pub factor : ℕ
  pub some : 0 < factor
  pub is : Fact factor
  pub made : after ≡ with_steps before (map (scaled factor) plan)
  pub rise : floor after.network (history after) ≡ factor + floor before.network (history before)

-- What lifting by a plan tells. Lifted: its steps were made. Blocked: with the amounts as they are the steps before one can be
-- made, and it cannot, since its amount is above the greatest with which it could. Spent: the block would be too long.
abbrev pub TellsOf : (ℕ → Type 0) → Limits → Standing → Standing → List Step → Lifting → Type 0
TellsOf Fact limits before after plan Lifted = IsLifted Fact before after plan
TellsOf Fact limits before after plan Closed = ⊥
TellsOf Fact limits before after plan (Blocked number step demand capacity) =
    IsRefusal before 1 plan (record { number = number; step = step; capacity = capacity }) × (demand ≡ amount_of step) × (after ≡ before)
TellsOf Fact limits before after plan Spent = (limits.steps < length before.block + length plan) × (after ≡ before)

-- And the factor is the one that is tried first, or 1 where that is too great.
abbrev pub Tells : ℕ → Limits → Standing → Standing → List Step → Lifting → Type 0
Tells q limits before after plan lifting = TellsOf (IsTried before q plan) limits before after plan lifting

-- A derivation ends with the deletion that empties x, before which no variable was empty, and has a plan.
pub record IsPlanOf (P : Network) (s : Standing) (q : ℕ) (bans : Bans) (deletions : List Deletion) (x : ℕ) (plan : List Step) : Type 0 where
  pub derivation : IsDerivation P (history s) q bans deletions
  pub emptied : EmptiesLast P (without deletions (history s)) x
  pub plan_is : IsPlan P (history s) q deletions x plan

-- Its steps, made with a factor, lift by that factor.
abbrev pub lifts : List Step → ℕ
lifts [] = 0
lifts (step ∷ steps) = lifted (Did step) + lifts steps

abbrev pub RisesBy : List Step → Type 0
RisesBy plan = (factor : ℕ) → lifts (map (scaled factor) plan) ≡ factor

-- Lifting by a plan of deletions that empty x tells this.
abbrev pub LiftsBy : Network → Limits → Standing → Standing → ℕ → List Deletion → ℕ → Lifting → Type 0
LiftsBy P limits before after q deletions x lifting = (plan : List Step) × IsPlan P (history before) q deletions x plan × Tells q limits before after plan lifting

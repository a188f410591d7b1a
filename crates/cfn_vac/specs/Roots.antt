-- Virtual arc consistency at the root: what it needs, and how an attempt to lift ends.
use Rattle.std.specs.Prelude.{◌≡◌, ℕ, zero, suc, ◌+◌, ◌≤◌, List, length, IsFalse}
use Rattle.cfn_model.specs.declared.step.Step.{Step}
use Rattle.cfn_model.specs.declared.step.Step.TheVariants.{Project, Extend, Lift, CutValue, CutTuple}
use Rattle.cfn_model.specs.Network.{Network, variable_at}
use Rattle.cfn_consistency.specs.declared.deletion.Deletion.{Deletion}
use Rattle.cfn_consistency.specs.Virtual.{Bans, without, IsDerivation, IsClosedFamily}
use Rattle.cfn_store.specs.Standing.{Standing, history}
use Rattle.cfn_gain.specs.declared.limits.Limits.{Limits}
use Rattle.cfn_derivation.specs.Banned.{Banning, IsBannedOwn, IsBannedBy}
use Rattle.cfn_derivation.specs.Derived.{AllAlive, value_count}
use Rattle.cfn_derivation.specs.Watched.{Watch}
use Rattle.cfn_vac.specs.declared.lifter.Lifting.{Lifting}
use Rattle.cfn_vac.specs.declared.lifter.Lifting.TheVariants.{Lifted, Closed, Blocked, Spent}
use Rattle.cfn_vac.specs.Lifts.{Tells, IsPlanOf}

-- A network, what is known of a store, with the deletions of the newest derivation, and what is banned.
pub record Root : Type 0 where
  pub network : Network
  pub watch : Watch
  pub bans : Banning

-- Each variable of a network's store has a live value, the block is no longer than it may be, and there is room for all steps up
-- to the limit, and besides for a cut of each value.
pub record IsReady (P : Network) (s : Standing) (limits : Limits) : Type 0 where
  pub network : s.network ≡ P
  pub alive : AllAlive P (history s)
  pub within : length s.block ≤ limits.steps
  pub room : limits.steps + value_count P ≤ length s.block + s.spare

-- A derivation empties a variable by its last deletion, and lifting by its plan tells this.
pub record HasPlan (P : Network) (q : ℕ) (bans : Bans) (limits : Limits) (before after : Standing) (deletions : List Deletion) (lifting : Lifting) : Type 0 where
  pub variable : ℕ
  pub plan : List Step
  pub is : IsPlanOf P before q bans deletions variable plan
  pub tells : Tells q limits before after plan lifting

-- How an attempt to lift ends: with a closed family, that a derivation left; or with what lifting by a plan tells.
abbrev pub EndsWith : Network → ℕ → Bans → Limits → Standing → Standing → List Deletion → Lifting → Type 0
EndsWith P q bans limits before after deletions Closed =
    IsDerivation P (history before) q bans deletions × IsClosedFamily P (without deletions (history before)) q bans × (after ≡ before)
EndsWith P q bans limits before after deletions Lifted = HasPlan P q bans limits before after deletions Lifted
EndsWith P q bans limits before after deletions (Blocked number step demand capacity) = HasPlan P q bans limits before after deletions (Blocked number step demand capacity)
EndsWith P q bans limits before after deletions Spent = HasPlan P q bans limits before after deletions Spent

-- One lift: at some amount and within some limits, by the plan of a derivation.
pub record IsOneLift (P : Network) (before after : Standing) : Type 0 where
  pub q : ℕ
  pub bans : Bans
  pub limits : Limits
  pub deletions : List Deletion
  pub plan : HasPlan P q bans limits before after deletions Lifted

-- A number of lifts one after another; and as many as there are.
abbrev pub AreLifts : Network → ℕ → Standing → Standing → Type 0
AreLifts P zero before after = after ≡ before
AreLifts P (suc n) before after = (mid : Standing) × AreLifts P n before mid × IsOneLift P mid after

abbrev pub HasLifted : Network → Standing → Standing → Type 0
HasLifted P before after = (n : ℕ) × AreLifts P n before after

-- What a blocked step stands for is banned, which was not: the unary cost of the value that an extend takes from, or the function
-- of a project at its value. Nothing else is.
abbrev pub BansMore : Network → Bans → Bans → Step → Type 0
BansMore P old new (Project f i a m) = IsFalse (old.by f i a) × IsBannedBy P old new f i a
BansMore P old new (Extend f i a m) = IsFalse (old.own (variable_at P f i) a) × IsBannedOwn P old new (variable_at P f i) a
BansMore P old new (Lift x m) = ⊥
BansMore P old new (CutValue x a) = ⊥
BansMore P old new (CutTuple f c) = ⊥

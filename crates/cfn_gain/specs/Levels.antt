-- A variable's part in node consistency.
use Rattle.std.specs.Prelude.{◌≡◌, ℕ, ◌+◌, ◌-◌, ◌≤◌, ◌⊎◌, min, List, ◌∷◌, ◌++◌, map, pos, ◌+ℤ◌, ◌≤ℤ◌, ◌<ℤ◌, IsTrue, Result, Err}
use Rattle.cfn_model.specs.declared.step.Step.TheVariants.{Lift, CutValue}
use Rattle.cfn_model.specs.declared.step.Event.{Event}
use Rattle.cfn_model.specs.Network.{Network}
use Rattle.cfn_model.specs.Sums.{floor, unary, is_live}
use Rattle.cfn_model.specs.Steps.{IsValue}
use Rattle.cfn_consistency.specs.Consistency.{IsFree}
use Rattle.cfn_gain.specs.Passes.{HasLive}
use Rattle.cfn_store.specs.Standing.{Standing, history}
use Rattle.cfn_gain.specs.declared.limits.Limits.{Limits}
use Rattle.cfn_gain.specs.declared.limits.Halt.{Halt}
use Rattle.cfn_gain.specs.declared.limits.Halt.TheVariants.{Spent}

-- With each live value of x the floor and its unary cost stay below the threshold.
abbrev pub AreBelow : Network → List Event → ℕ → ℕ → Type 0
AreBelow P history k x = (a : ℕ) → IsValue P x a → IsTrue (is_live history x a) → (pos (floor P history) +ℤ unary P history x a) <ℤ pos k

-- And one of them has the unary cost 0.
pub record IsLevel (P : Network) (history : List Event) (k x : ℕ) : Type 0 where
  pub below : AreBelow P history k x
  pub free : (a : ℕ) × IsFree P history x a

-- The variable x has a live value, and each of them costs something.
pub record AreAllCostly (P : Network) (history : List Event) (x : ℕ) : Type 0 where
  pub some : HasLive P history x
  pub each : (a : ℕ) → IsValue P x a → IsTrue (is_live history x a) → pos 1 ≤ℤ unary P history x a

-- The same with an amount: each of them costs that much at least.
pub record AreAllAtLeast (P : Network) (history : List Event) (x amount : ℕ) : Type 0 where
  pub some : HasLive P history x
  pub each : (a : ℕ) → IsValue P x a → IsTrue (is_live history x a) → pos amount ≤ℤ unary P history x a

-- Unless the block had no room, the floor rose by an amount at least.
abbrev pub RisesBy : Standing → Standing → ℕ → Result (Unit {0}) Halt → Type 0
RisesBy before after amount result = (result ≡ Err Spent → ⊥) → floor before.network (history before) + amount ≤ floor after.network (history after)

-- Between two standings values of x were cut, and nothing else was done.
pub record AddsCuts (before after : Standing) (x : ℕ) : Type 0 where
  pub values : List ℕ
  pub block : after.block ≡ before.block ++ map (CutValue x) values

-- The first step lifts an amount from x, and those behind it cut values of x.
pub record AddsLift (before after : Standing) (x amount : ℕ) : Type 0 where
  pub values : List ℕ
  pub block : after.block ≡ before.block ++ Lift x amount ∷ map (CutValue x) values

-- The first step lifts the least unary cost of the live values of x, or what the floor lacks where that is less; only where the
-- block had no room was nothing done.
abbrev pub LiftsFirst : Standing → Standing → Limits → ℕ → ℕ → Result (Unit {0}) Halt → Type 0
LiftsFirst before after limits x least result =
    AddsLift before after x (min least (limits.threshold - floor before.network (history before))) ⊎ ((result ≡ Err Spent) × (after ≡ before))

-- Values that are cut one after another close groups.
use Rattle.std.proofs.Common.{◌≡◌, ◌⊎◌, ℕ, ◌+◌, ◌<◌, ◌≤◌, inl, inr, List, refl, sym, subst, arith}
use Rattle.std.proofs.lemmas.Bool.{cases_eq}
use Rattle.std.proofs.lemmas.Int.{ints}
use Rattle.std.specs.Prelude.{pos, slice_index, IsTrue, Result, Ok, Err, IsErrAnd}
use Rattle.cfn_model.specs.declared.step.Event.{Event}
use Rattle.cfn_model.specs.declared.step.Step.TheVariants.{CutValue}
use Rattle.cfn_model.specs.Network.{Network}
use Rattle.cfn_model.specs.Sums.{floor, unary, is_live}
use Rattle.cfn_model.specs.Steps.{CanCutValue}
use Rattle.cfn_consistency.specs.Groups.{IsBegun}
use Rattle.cfn_store.specs.Standing.{Standing, history, with_step}
use Rattle.cfn_gain.specs.declared.limits.Limits.{Limits}
use Rattle.cfn_gain.specs.declared.limits.Halt.{Halt}
use Rattle.cfn_gain.specs.Gains.{Gained, IsOpen, Gains, GainsBehind, HasCostly}
use Rattle.cfn_gain.proofs.Gaining.{gained_none, opened, cut_closes, gains_halt}

-- A group that others began is closed, or no step was made and a value that can be cut is still ahead.
abbrev pub IsAhead : Standing → Standing → Standing → Limits → ℕ → ℕ → Type 0
IsAhead start before now limits x n = Gained start now ⊎ ((now ≡ before) × HasCostly before.network (history before) limits.threshold x n)

pub record IsClosing (before now : Standing) (limits : Limits) (x n : ℕ) : Type 0 where
  pub gained : Gained before now
  pub closes : (start : Standing) → IsOpen start before → HasCostly before.network (history before) limits.threshold x 0 → IsAhead start before now limits x n

pub closing_start : (s : Standing) (limits : Limits) (x : ℕ) → IsClosing s s limits x 0
closing_start s limits x = record { gained = gained_none s; closes = λ start begins has. inr (refl, has) }

still_ahead : (P : Network) (h : List Event) (k x n : ℕ) → (IsTrue (is_live h x n) → CanCutValue P h k x n → ⊥) → HasCostly P h k x n → HasCostly P h k x (n + 1)
still_ahead P h k x n none has = elim (cases_eq has.value n) [
  | inl e ↦ absurd (none (subst (λ a. IsTrue (is_live h x a)) e has.live) (subst (CanCutValue P h k x) e has.reaches))
  | inr d ↦ record { value = has.value; is = has.is; from = (let l = has.from in omega (arith, l, d)); live = has.live; reaches = has.reaches }
]

pub closing_kept : (before now : Standing) (limits : Limits) (x n : ℕ) → IsClosing before now limits x n → (IsTrue (is_live (history now) x n) → CanCutValue now.network (history now) limits.threshold x n → ⊥) → IsClosing before now limits x (n + 1)
closing_kept before now limits x n c none = record { gained = c.gained; closes = λ start begins has. by start (c.closes start begins has) }
  where
    by : (start : Standing) → IsAhead start before now limits x n → IsAhead start before now limits x (n + 1)
    by start (inl gained) = inl gained
    by start (inr (is, has)) = inr (is, still_ahead before.network (history before) limits.threshold x n (subst (λ t. IsTrue (is_live (history t) x n) → CanCutValue t.network (history t) limits.threshold x n → ⊥) is none) has)

-- whatever began the group, it is open
pub ahead_open : (start before now : Standing) (limits : Limits) (x n : ℕ) → IsOpen start before → IsAhead start before now limits x n → IsOpen start now
ahead_open start before now limits x n begins (inl gained) = opened start now IsBegun gained
ahead_open start before now limits x n begins (inr (is, has)) = subst (IsOpen start) (sym is) begins

pub closing_cut : (before now next : Standing) (limits : Limits) (x n : ℕ) → IsClosing before now limits x n → IsTrue (is_live (history now) x n) → next ≡ with_step now (CutValue x n) → IsClosing before next limits x (n + 1)
closing_cut before now next limits x n c live made = record {
  gained = cut_closes before now next x n (opened before now IsBegun c.gained) live made;
  closes = λ start begins has. inl (cut_closes start now next x n (ahead_open start before now limits x n begins (c.closes start begins has)) live made);
}

pub closing_halts : (before now next : Standing) (limits : Limits) (x n : ℕ) (halt : Halt) (result : Result (Unit {0}) Halt) → IsClosing before now limits x n → GainsBehind now next limits (Err halt) → IsErrAnd result (λ h. h ≡ halt) → Gains before next limits result
closing_halts before now next limits x n halt result c behind is = gains_halt before next limits halt result (behind before (opened before now IsBegun c.gained)) is

pub closing_halts_behind : (before now next : Standing) (limits : Limits) (x n : ℕ) (halt : Halt) (result : Result (Unit {0}) Halt) → IsClosing before now limits x n → GainsBehind now next limits (Err halt) → IsErrAnd result (λ h. h ≡ halt) → HasCostly before.network (history before) limits.threshold x 0 → GainsBehind before next limits result
closing_halts_behind before now next limits x n halt result c behind is has start begins =
    gains_halt start next limits halt result (behind start (ahead_open start before now limits x n begins (c.closes start begins has))) is

pub closing_done : (before now : Standing) (limits : Limits) (x n : ℕ) → slice_index before.network.sizes x ≤ n → IsClosing before now limits x n → HasCostly before.network (history before) limits.threshold x 0 → GainsBehind before now limits (Ok tt)
closing_done before now limits x n all c has start begins = by (c.closes start begins has)
  where
    by : IsAhead start before now limits x n → Gained start now
    by (inl gained) = gained
    by (inr (is, late)) = absurd (let from = late.from in let value = late.is.value in omega (arith, from, value, all))

pub stays : (s : Standing) (k x a lacks n : ℕ) → floor s.network (history s) + lacks ≡ k → n < lacks → pos n ≡ unary s.network (history s) x a → CanCutValue s.network (history s) k x a → ⊥
stays s k x a lacks n sum less is reaches = absurd (omega (arith, ints, sum, less, is, reaches))

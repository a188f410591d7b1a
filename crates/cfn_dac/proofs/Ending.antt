-- What directional arc consistency gains.
use Rattle.std.proofs.Common.{◌≡◌, ℕ, ◌+◌, inl, inr, List, [], ◌∷◌, sym, ap, ◌∙◌, subst, arith}
use Rattle.std.proofs.lemmas.Int.{ints}
use Rattle.std.specs.Prelude.{Result, Err, IsErrAnd, ℤ, pos, ◌+ℤ◌, ◌≤ℤ◌}
use Rattle.cfn_model.specs.declared.step.Event.{Event}
use Rattle.cfn_model.specs.Network.{Network, IsNetwork, variable_at}
use Rattle.cfn_model.specs.Sums.{floor, unary}
use Rattle.cfn_consistency.specs.Openness.{HasOpenPair}
use Rattle.cfn_consistency.specs.Groups.{Group, IsBegun}
use Rattle.cfn_consistency.proofs.CallerLemmas.{pair_kept}
use Rattle.cfn_store.specs.Standing.{Standing, history}
use Rattle.cfn_gain.specs.declared.limits.Limits.{Limits}
use Rattle.cfn_gain.specs.declared.limits.Halt.{Halt}
use Rattle.cfn_gain.specs.Gains.{IsOpen, IsDue, Gains, GainsBehind, HasCostly}
use Rattle.cfn_gain.proofs.CallerLemmas.{gained_none, leads_weaker, opened, gains_then, gains_halt, gains_spent, IsNotDead}
use Rattle.cfn_dac.specs.declared.pair.Pair.{Pair}
use Rattle.cfn_dac.specs.Full.{first_of}
use Rattle.cfn_dac.specs.Opens.{IsLowerPair}
use Rattle.cfn_dac.specs.Shifts.{Shifts, SomeLacks, SomeReached, GoThrough, IsThrough, LeadsThrough, IsDirected, Closed}
use Rattle.cfn_dac.proofs.Places.{first_value}

pub directed_of : (P : Network) (history : List Event) (f : ℕ) (pair : Pair) → IsLowerPair P history f pair → IsDirected P history pair
directed_of P history f pair is = (
  subst (λ g. HasOpenPair P history g pair.place pair.other) (sym is.function) is.opens,
  (let l = is.lower in let one = ap (λ g. variable_at P g pair.place) is.function in let two = ap (λ g. variable_at P g pair.other) is.function in omega (arith, l, one, two)),
)

-- a group through a function is one
pub through_open : (s t : Standing) (pair : Pair) → LeadsThrough s t pair → IsOpen s t
through_open s t pair through = opened s t (IsThrough (pair.function ∷ [])) (through s [] (λ none. none) (leads_weaker s s IsBegun (IsThrough []) (gained_none s) (λ g is. subst (λ (k : Group). GoThrough [] k.steps) (sym is) tt)))

-- where a value lacks a full support a step is due
pub due_full : (s t : Standing) (limits : Limits) (pair : Pair) → t.network ≡ s.network → IsDirected s.network (history s) pair → Shifts s.network pair limits.threshold (history s) (history t) → SomeLacks s.network (history t) pair → IsDue t limits
due_full s t limits pair same directed shifts lacks = subst (λ P. IsDue (record { network = P; base = t.base; block = t.block; spare = t.spare }) limits) (sym same) (λ full.
    lacks.none (full.directional.functions pair.function pair.place pair.other lacks.value (pair_kept s.network (history s) (history t) pair.function pair.place pair.other shifts.values directed.0) directed.1 lacks.place lacks.live))

pub gains_lacking : (s t : Standing) (limits : Limits) (halt : Halt) (result : Result (Unit {0}) Halt) (f : ℕ) (pair : Pair) → t.network ≡ s.network → IsLowerPair s.network (history s) f pair → Shifts s.network pair limits.threshold (history s) (history t) → LeadsThrough s t pair → SomeLacks s.network (history t) pair
    → IsNotDead (Err halt) → IsErrAnd result (λ h. h ≡ halt) → Gains s t limits result
gains_lacking s t limits halt result f pair same lower shifts through lacks not is =
    gains_halt s t limits halt result (gains_spent s t limits halt not (through_open s t pair through) (due_full s t limits pair same (directed_of s.network (history s) f pair lower) shifts lacks)) is

-- what has come to what the floor lacks can be cut
reaches : (n m lacks k : ℕ) (u : ℤ) → m ≡ n → n + lacks ≡ k → pos lacks ≤ℤ u → pos k ≤ℤ (pos m +ℤ u)
reaches n m lacks k u same sum le = omega (arith, ints, same, sum, le)

costly_of : (s t : Standing) (k lacks x : ℕ) (pair : Pair) → IsNetwork s.network → t.network ≡ s.network → floor s.network (history s) + lacks ≡ k → Shifts s.network pair k (history s) (history t) → x ≡ first_of s.network pair → SomeReached t.network (history t) pair lacks → HasCostly t.network (history t) k x 0
costly_of s t k lacks x pair net same sum shifts at some = subst (λ P. HasCostly P (history t) k x 0) (sym same) (subst (λ y. HasCostly s.network (history t) k y 0) (sym at) (by (subst (λ P. SomeReached P (history t) pair lacks) same some)))
  where
    by : SomeReached s.network (history t) pair lacks → HasCostly s.network (history t) k (first_of s.network pair) 0
    by has = record {
      value = has.value;
      is = first_value s.network pair has.value net has.place;
      from = omega arith;
      live = has.live;
      reaches = reaches (floor s.network (history s)) (floor s.network (history t)) lacks k (unary s.network (history t) (first_of s.network pair) has.value) shifts.floors sum has.cost;
    }

pub gains_closed : (s t next : Standing) (limits : Limits) (result : Result (Unit {0}) Halt) (lacks x f : ℕ) (pair : Pair) → IsNetwork s.network → t.network ≡ s.network → floor s.network (history s) + lacks ≡ limits.threshold → IsLowerPair s.network (history s) f pair
    → Shifts s.network pair limits.threshold (history s) (history t) → x ≡ variable_at t.network f pair.place → (IsDirected s.network (history s) pair → Closed s t pair lacks) → Gains t next limits result → (HasCostly t.network (history t) limits.threshold x 0 → GainsBehind t next limits result) → Gains s next limits result
gains_closed s t next limits result lacks x f pair net same sum lower shifts at closed gains closes = by (closed (directed_of s.network (history s) f pair lower))
  where
    here : x ≡ first_of s.network pair
    here = at ∙ ap (λ P. variable_at P f pair.place) same ∙ sym (ap (λ g. variable_at s.network g pair.place) lower.function)

    by : Closed s t pair lacks → Gains s next limits result
    by (inl gained) = gains_then s t next limits result gained gains
    by (inr (is_open, some)) = closes (costly_of s t limits.threshold lacks x pair net same sum shifts here some) s is_open

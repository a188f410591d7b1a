-- A project by which a value gets a support.
use Rattle.std.proofs.Common.{◌≡◌, ℕ, ◌<◌, inl, List, [], ◌∷◌, refl, sym, ◌∙◌, subst, arith}
use Rattle.std.proofs.lemmas.Int.{ints}
use Rattle.std.specs.Prelude.{ℤ, pos, neg_ℤ, ◌+ℤ◌, ◌≤ℤ◌, IsTrue}
use Rattle.cfn_model.specs.declared.step.Step.{Step}
use Rattle.cfn_model.specs.declared.step.Step.TheVariants.{Project}
use Rattle.cfn_model.specs.declared.step.Event.{Event}
use Rattle.cfn_model.specs.declared.step.Event.TheVariants.{Did}
use Rattle.cfn_model.specs.Network.{Network, variable_at}
use Rattle.cfn_model.specs.Sums.{residual, is_live}
use Rattle.cfn_model.specs.Steps.{CanProject}
use Rattle.cfn_consistency.specs.Openness.{TakesPart}
use Rattle.cfn_consistency.specs.Consistency.{HasSupport}
use Rattle.cfn_consistency.specs.Groups.{Group, IsShift, IsNew, Closes, IsBegun, MayBeOpen}
use Rattle.cfn_consistency.proofs.CallerLemmas.{part_after}
use Rattle.cfn_gain.proofs.Stepping.{history_step}
use Rattle.cfn_scan.specs.declared.scan.Extreme.{Extreme}
use Rattle.cfn_scan.specs.declared.scan.Sense.TheVariants.{Least}
use Rattle.cfn_scan.specs.Extremes.{IsExtreme}
use Rattle.cfn_store.specs.Standing.{Standing, history, with_step}
use Rattle.cfn_gain.specs.Gains.{Gained, IsOpen, HasCost}
use Rattle.cfn_gain.proofs.Gaining.{gained_none, leads_shift, leads_close}
use Rattle.cfn_gain.proofs.Keeping.{tuple_kept, residual_taken}

-- one step that is a group, and one that begins it
pub close_one : (s next : Standing) (step : Step) → next ≡ with_step s step → Closes s.network (history s) (history s) step → Gained s next
close_one s next step made closed = leads_close s s next IsBegun step (gained_none s) made (λ g is. subst (λ (k : Group). IsNew k.steps step × Closes s.network k.start (history s) step) (sym is) (tt, closed))

pub open_one : (s next : Standing) (step : Step) → next ≡ with_step s step → IsShift step → IsOpen s next
open_one s next step made shift = leads_shift s s next IsBegun MayBeOpen step (gained_none s) made shift (λ g is. (subst (λ (k : Group). IsNew k.steps step) (sym is) tt, tt))

above_none : (z : ℤ) (least : ℕ) → 0 < least → pos least ≤ℤ z → z ≡ pos 0 → ⊥
above_none z least some le none = absurd (omega (arith, ints, some, le, none))

-- where all live tuples with a value have an amount it has no support
pub no_support : (P : Network) (h : List Event) (f i a least : ℕ) → CanProject P h f i a least → 0 < least → HasSupport P h f i a → ⊥
no_support P h f i a least enough some has = above_none (residual P h f has.tuple) least some (enough has.tuple has.fits has.at has.live) has.free

taken_all : (z : ℤ) (m least : ℕ) → m ≡ least → z ≡ pos least → (neg_ℤ (pos m) +ℤ z) ≡ pos 0
taken_all z m least same is = omega (arith, ints, same, is)

-- and where one has no more it has a support then
pub got_support : (P : Network) (h : List Event) (f i a m least : ℕ) → TakesPart P h f → IsTrue (is_live h (variable_at P f i) a) → CanProject P h f i a least → 0 < least → HasCost P h f i a least → m ≡ least → Closes P h h (Project f i a m)
got_support P h f i a m least part live enough some has same = inl (record {
  part = part_after P h (Project f i a m ∷ []) f part;
  live = live;
  before = no_support P h f i a least enough some;
  now = record {
    tuple = has.tuple;
    fits = has.fits;
    at = has.at;
    live = tuple_kept P (Did (Project f i a m)) h f has.tuple (λ x b. refl) refl ∙ has.live;
    free = residual_taken P h f i a m has.tuple has.at ∙ taken_all (residual P h f has.tuple) m least same has.cost_is;
  };
})

pub live_projected : (s now : Standing) (f i a m x b : ℕ) → now ≡ with_step s (Project f i a m) → IsTrue (is_live (history s) x b) → IsTrue (is_live (history now) x b)
live_projected s now f i a m x b made live = subst (λ t. IsTrue (is_live (history t) x b)) (sym made) (subst (λ h. IsTrue (is_live h x b)) (sym (history_step s (Project f i a m))) live)

pub cost_of : (P : Network) (history : List Event) (f i a : ℕ) (found : Extreme) → IsExtreme P history f i a Least found → HasCost P history f i a found.cost
cost_of P history f i a found is = record { tuple = is.tuple; fits = is.picked.fits; at = is.picked.value; live = is.picked.live; cost_is = is.cost_is }

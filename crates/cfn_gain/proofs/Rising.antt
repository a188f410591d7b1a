-- By how much the floor rises where a variable is made level.
use Rattle.std.proofs.Common.{◌≡◌, ℕ, ◌+◌, ◌-◌, ◌≤◌, min, inl, inr, List, [], ◌∷◌, ◌++◌, map, refl, ap, ◌∙◌, arith}
use Rattle.std.proofs.lemmas.Int.{ints}
use Rattle.std.specs.Prelude.{Result}
use Rattle.cfn_model.specs.declared.step.Step.{Step}
use Rattle.cfn_model.specs.declared.step.Step.TheVariants.{Lift, CutValue}
use Rattle.cfn_model.specs.declared.step.Event.{Event}
use Rattle.cfn_model.specs.declared.step.Event.TheVariants.{Did}
use Rattle.cfn_model.specs.Network.{Network}
use Rattle.cfn_model.specs.Sums.{floor}
use Rattle.cfn_model.specs.Steps.{after}
use Rattle.cfn_store.specs.Standing.{Standing, history}
use Rattle.cfn_gain.specs.declared.limits.Limits.{Limits}
use Rattle.cfn_gain.specs.declared.limits.Halt.{Halt}
use Rattle.cfn_gain.specs.Passes.{IsLeast}
use Rattle.cfn_gain.specs.Levels.{AreAllAtLeast, RisesBy, AddsCuts, AddsLift, LiftsFirst}
use Rattle.cfn_gain.proofs.Stepping.{after_append}

-- cuts of values leave the floor
none_more : (n : ℕ) → 0 + n ≡ n
none_more n = omega arith

floor_cuts : (P : Network) (h : List Event) (x : ℕ) (values : List ℕ) → floor P (after (map (CutValue x) values) h) ≡ floor P h
floor_cuts P h x [] = refl
floor_cuts P h x (a ∷ values) = floor_cuts P (Did (CutValue x a) ∷ h) x values ∙ none_more (floor P h)

-- the history behind more steps
behind : (before now : Standing) (steps : List Step) → now.base ≡ before.base → now.block ≡ before.block ++ steps → history now ≡ after steps (history before)
behind before now steps base block = ap (λ b. after b now.base) block ∙ ap (after (before.block ++ steps)) base ∙ after_append before.block steps before.base

cut_floor : (before now : Standing) (x : ℕ) → now.network ≡ before.network → now.base ≡ before.base → AddsCuts before now x → floor now.network (history now) ≡ floor before.network (history before)
cut_floor before now x network base cuts = ap (λ P. floor P (history now)) network ∙ ap (floor before.network) (behind before now (map (CutValue x) cuts.values) base cuts.block) ∙ floor_cuts before.network (history before) x cuts.values

lift_floor : (before now : Standing) (x amount : ℕ) → now.network ≡ before.network → now.base ≡ before.base → AddsLift before now x amount → floor now.network (history now) ≡ amount + floor before.network (history before)
lift_floor before now x amount network base lifts =
    ap (λ P. floor P (history now)) network ∙ ap (floor before.network) (behind before now (Lift x amount ∷ map (CutValue x) lifts.values) base lifts.block)
    ∙ floor_cuts before.network (Did (Lift x amount) ∷ history before) x lifts.values

-- what each live value costs is at most the least of them
at_most_least : (s : Standing) (x least amount : ℕ) → IsLeast s.network (history s) x least → AreAllAtLeast s.network (history s) x amount → amount ≤ least
at_most_least s x least amount is all = let one = all.each is.value is.is is.live in let cost = is.cost in omega (arith, ints, one, cost)

-- where the least is lifted, and where it is none
pub rises_lifted : (before now : Standing) (limits : Limits) (x least amount : ℕ) (result : Result (Unit {0}) Halt) → now.network ≡ before.network → now.base ≡ before.base → IsLeast before.network (history before) x least
    → LiftsFirst before now limits x least result → AreAllAtLeast before.network (history before) x amount → floor before.network (history before) + amount ≤ limits.threshold → RisesBy before now amount result
rises_lifted before now limits x least amount result network base is (inl lifts) all below room =
    let rise = lift_floor before now x (min least (limits.threshold - floor before.network (history before))) network base lifts in
    let most = at_most_least before x least amount is all in
    omega (arith, rise, most, below)
rises_lifted before now limits x least amount result network base is (inr spent) all below room = absurd (room spent.0)

pub rises_none : (before now : Standing) (x least amount : ℕ) (result : Result (Unit {0}) Halt) → now.network ≡ before.network → now.base ≡ before.base → IsLeast before.network (history before) x least → least ≡ 0
    → AddsCuts before now x → AreAllAtLeast before.network (history before) x amount → RisesBy before now amount result
rises_none before now x least amount result network base is none cuts all room =
    let same = cut_floor before now x network base cuts in let most = at_most_least before x least amount is all in omega (arith, same, most, none)

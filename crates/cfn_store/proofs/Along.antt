-- Histories: what they take, what they lift, and the steps at their end.
use Rattle.std.proofs.Common.{◌≡◌, ℕ, ◌+◌, ◌*◌, ◌≤◌, ◌^◌, not, ◌&&◌, List, [], ◌∷◌, ◌++◌, length, reverse, refl, sym, ap, ◌∙◌, arith}
use Rattle.std.proofs.lemmas.List.{reverse-append, append_assoc}
use Rattle.std.proofs.Math.Nat.{mul-le-mul}
use Rattle.cfn_model.specs.declared.step.Step.{Step}
use Rattle.cfn_model.specs.declared.step.Step.TheVariants.{Project, Extend, Lift, CutValue, CutTuple}
use Rattle.cfn_model.specs.declared.step.Event.{Event}
use Rattle.cfn_model.specs.declared.step.Event.TheVariants.{Did, Took, Refused}
use Rattle.cfn_model.specs.Network.{Network, IsNetwork}
use Rattle.cfn_model.specs.Sums.{is_live, removes, floor}
use Rattle.cfn_model.specs.Steps.{after}
use Rattle.cfn_net.proofs.CallerLemmas.{floor_at_root}
use Rattle.cfn_store.specs.Events.{removals, steps_in, AllSteps}
use Rattle.cfn_scan.specs.Exact.{LiftsFit}

-- only events that take values decide what is live
pub live_by_removals : (history : List Event) (x a : ℕ) → is_live (removals history) x a ≡ is_live history x a
live_by_removals [] x a = refl
live_by_removals (Did (Project f i b m) ∷ history) x a = live_by_removals history x a
live_by_removals (Did (Extend f i b m) ∷ history) x a = live_by_removals history x a
live_by_removals (Did (Lift y m) ∷ history) x a = live_by_removals history x a
live_by_removals (Did (CutValue y b) ∷ history) x a = ap (λ t. not (removes (Did (CutValue y b)) x a) && t) (live_by_removals history x a)
live_by_removals (Did (CutTuple f c) ∷ history) x a = live_by_removals history x a
live_by_removals (Took d ∷ history) x a = ap (λ t. not (removes (Took d) x a) && t) (live_by_removals history x a)
live_by_removals (Refused d ∷ history) x a = ap (λ t. not (removes (Refused d) x a) && t) (live_by_removals history x a)

pub fewer_removals : (history : List Event) → length (removals history) ≤ length history
fewer_removals [] = omega arith
fewer_removals (Did (Project f i b m) ∷ history) = (let r = fewer_removals history in omega (arith, r))
fewer_removals (Did (Extend f i b m) ∷ history) = (let r = fewer_removals history in omega (arith, r))
fewer_removals (Did (Lift y m) ∷ history) = (let r = fewer_removals history in omega (arith, r))
fewer_removals (Did (CutValue y b) ∷ history) = (let r = fewer_removals history in omega (arith, r))
fewer_removals (Did (CutTuple f c) ∷ history) = (let r = fewer_removals history in omega (arith, r))
fewer_removals (Took d ∷ history) = (let r = fewer_removals history in omega (arith, r))
fewer_removals (Refused d ∷ history) = (let r = fewer_removals history in omega (arith, r))

pub floor_start : (P : Network) → IsNetwork P → floor P [] ≤ 2 ^ 20 * 2 ^ 64
floor_start P net =
    let s = floor_at_root P net in
    let u = net.upper in
    let few = net.few_functions in
    let small : P.upper ≤ 18446744073709551616 = omega (arith, u) in
    let p : length P.functions * P.upper ≤ 1048576 * 18446744073709551616 = mul-le-mul few small in
    omega (arith, s, p)

-- the floor fits 128 bits with much room
pub floor_below : (P : Network) (history : List Event) → floor P [] ≤ 2 ^ 20 * 2 ^ 64 → LiftsFit history → floor P history ≤ (2 ^ 20 + length history) * 2 ^ 64
floor_below P [] start fit = omega (arith, start)
floor_below P (event ∷ history) start fit = (let r = floor_below P history start fit.1 in let f = fit.0 in omega (arith, r, f))

-- a block of steps behind a history is the history with their events
pub after_steps : (events : List Event) (base : List Event) → AllSteps events → after (steps_in events) base ≡ reverse events ++ base
after_steps [] base all = refl
after_steps (Did step ∷ events) base all =
    after_steps events (Did step ∷ base) all ∙ ap (λ l. l) (sym (append_assoc (reverse events) (Did step ∷ []) base)) ∙ ap (λ l. l ++ base) (sym (reverse-append (Did step ∷ []) events))
after_steps (Took d ∷ events) base all = absurd all
after_steps (Refused d ∷ events) base all = absurd all

-- one step more
pub steps_more : (events : List Event) (step : Step) → steps_in (events ++ Did step ∷ []) ≡ steps_in events ++ step ∷ []
steps_more [] step = refl
steps_more (Did other ∷ events) step = ap (λ l. other ∷ l) (steps_more events step)
steps_more (Took d ∷ events) step = steps_more events step
steps_more (Refused d ∷ events) step = steps_more events step

pub steps_joined : (events others : List Event) → steps_in (events ++ others) ≡ steps_in events ++ steps_in others
steps_joined [] others = refl
steps_joined (Did step ∷ events) others = ap (λ l. step ∷ l) (steps_joined events others)
steps_joined (Took d ∷ events) others = steps_joined events others
steps_joined (Refused d ∷ events) others = steps_joined events others

pub all_more : (events : List Event) (step : Step) → AllSteps events → AllSteps (events ++ Did step ∷ [])
all_more [] step all = tt {0}
all_more (Did other ∷ events) step all = all_more events step all
all_more (Took d ∷ events) step all = absurd all
all_more (Refused d ∷ events) step all = absurd all

-- a list of steps as events
abbrev pub as_events : List Step → List Event
as_events [] = []
as_events (step ∷ steps) = Did step ∷ as_events steps

pub after_is : (block : List Step) (base : List Event) → after block base ≡ reverse (as_events block) ++ base
after_is [] base = refl
after_is (step ∷ steps) base =
    after_is steps (Did step ∷ base) ∙ sym (append_assoc (reverse (as_events steps)) (Did step ∷ []) base) ∙ ap (λ l. l ++ base) (sym (reverse-append (Did step ∷ []) (as_events steps)))

pub steps_of_events : (block : List Step) → steps_in (as_events block) ≡ block
steps_of_events [] = refl
steps_of_events (step ∷ steps) = ap (λ l. step ∷ l) (steps_of_events steps)

pub all_of_events : (block : List Step) → AllSteps (as_events block)
all_of_events [] = tt {0}
all_of_events (step ∷ steps) = all_of_events steps

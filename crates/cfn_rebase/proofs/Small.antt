-- The numbers of what is in range are below 2^32.
use Rattle.std.proofs.Common.{◌≡◌, ℕ, ◌<◌, true, arith, lt-ltb, slice_index}
use Rattle.std.proofs.lemmas.Bool.{and_from}
use Rattle.cfn_model.specs.declared.step.Step.{Step}
use Rattle.cfn_model.specs.declared.step.Step.TheVariants.{Project, Extend, Lift, CutValue, CutTuple}
use Rattle.cfn_model.specs.declared.step.Decision.{Decision}
use Rattle.cfn_model.specs.declared.step.Decision.TheVariants.{Is, Most}
use Rattle.cfn_model.specs.Network.{Network, IsNetwork, arity, dims_at, scope_at}
use Rattle.cfn_model.specs.Steps.{IsValue, IsPlace, InRange, IsDecision}
use Rattle.cfn_net.proofs.CallerLemmas.{get_or-dims}
use Rattle.cfn_certread.proofs.CallerLemmas.{few_places}
use Rattle.cfn_certread.specs.Narrowing.{is_small, is_small_step, is_small_decision}

small_number : (n : ℕ) → n < 4294967296 → is_small n ≡ true
small_number n h = lt-ltb n 4294967296 h

small_value : (P : Network) (x a : ℕ) → IsNetwork P → IsValue P x a → (is_small x ≡ true) × (is_small a ≡ true)
small_value P x a network is =
    let v = is.variable in
    let w = is.value in
    let few = network.few in
    let most = (network.sizes x is.variable).1 in
    (small_number x (omega (arith, v, few)), small_number a (omega (arith, w, most)))

small_place : (P : Network) (f i a : ℕ) → IsNetwork P → IsPlace P f i a → (is_small f ≡ true) × (is_small i ≡ true) × (is_small a ≡ true)
small_place P f i a network is =
    let scope = scope_at P f in
    let there = is.function in
    let functions = network.few_functions in
    let place = is.place in
    let places = few_places P f network is.function in
    let few = network.few in
    let size : slice_index (dims_at P f) i ≡ slice_index P.sizes (slice_index scope i) = get_or-dims P.sizes scope i is.place in
    let most = (network.sizes (slice_index scope i) ((network.functions f is.function).variables i is.place)).1 in
    let value = is.value in
    (small_number f (omega (arith, there, functions)), small_number i (omega (arith, place, places, few)), small_number a (omega (arith, value, size, most)))

pub small_step : (P : Network) (step : Step) → IsNetwork P → InRange P step → is_small_step step ≡ true
small_step P (Project f i a m) network is = let s = small_place P f i a network is in and_from _ _ s.0 (and_from _ _ s.1 s.2)
small_step P (Extend f i a m) network is = let s = small_place P f i a network is in and_from _ _ s.0 (and_from _ _ s.1 s.2)
small_step P (Lift x m) network is = let few = network.few in small_number x (omega (arith, is, few))
small_step P (CutValue x a) network is = let s = small_value P x a network is in and_from _ _ s.0 s.1
small_step P (CutTuple f c) network is =
    let there = is.function in
    let functions = network.few_functions in
    let cell = is.cell in
    let few = (network.functions f is.function).few in
    and_from _ _ (small_number f (omega (arith, there, functions))) (small_number c (omega (arith, cell, few)))

pub small_decision : (P : Network) (d : Decision) → IsNetwork P → IsDecision P d → is_small_decision d ≡ true
small_decision P (Is x a) network is = let s = small_value P x a network is in and_from _ _ s.0 s.1
small_decision P (Most x v) network is = let s = small_value P x v network is in and_from _ _ s.0 s.1

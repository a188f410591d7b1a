-- A valid tree has no number of 2^32 or more but amounts, so all of it is read.
use Rattle.std.proofs.Common.{◌≡◌, ℕ, ◌<◌, true, false, List, [], ◌∷◌, refl, ap, ap₂, ◌∙◌, arith, if◌then◌else◌, lt-ltb, slice_index}
use Rattle.std.proofs.lemmas.Bool.{and_from}
use Rattle.cfn_model.specs.declared.step.Step.{Step}
use Rattle.cfn_model.specs.declared.step.Step.TheVariants.{Project, Extend, Lift, CutValue, CutTuple}
use Rattle.cfn_model.specs.declared.step.Decision.{Decision}
use Rattle.cfn_model.specs.declared.step.Decision.TheVariants.{Is, Most}
use Rattle.cfn_model.specs.declared.step.Event.{Event}
use Rattle.cfn_model.specs.declared.step.Event.TheVariants.{Did, Took, Refused}
use Rattle.cfn_model.specs.Network.{Network, IsNetwork, dims_at, scope_at}
use Rattle.cfn_model.specs.Steps.{IsValue, IsPlace, IsDecision, Allowed, Run, after}
use Rattle.cfn_model.specs.Tree.{Tree, Open, Closed, Split, Valid}
use Rattle.cfn_net.proofs.CallerLemmas.{get_or-dims}
use Rattle.cfn_tables.proofs.CallerLemmas.{arity_small}
use Rattle.cfn_certread.specs.Narrowing.{is_small, is_small_step, is_small_decision, small_front, are_small, narrowed}

small_number : (n : ℕ) → n < 4294967296 → is_small n ≡ true
small_number n h = lt-ltb n 4294967296 h

module _ (P : Network) (network : IsNetwork P) where
  small_value : (x a : ℕ) → IsValue P x a → (is_small x ≡ true) × (is_small a ≡ true)
  small_value x a is =
      let v = is.variable in
      let w = is.value in
      let few = network.few in
      let most = (network.sizes x is.variable).1 in
      (small_number x (omega (arith, v, few)), small_number a (omega (arith, w, most)))

  small_place : (f i a : ℕ) → IsPlace P f i a → (is_small f ≡ true) × (is_small i ≡ true) × (is_small a ≡ true)
  small_place f i a is =
      let scope = scope_at P f in
      let there = is.function in
      let functions = network.few_functions in
      let place = is.place in
      let places = arity_small P f network is.function in
      let size : slice_index (dims_at P f) i ≡ slice_index P.sizes (slice_index scope i) = get_or-dims P.sizes scope i is.place in
      let most = (network.sizes (slice_index scope i) ((network.functions f is.function).variables i is.place)).1 in
      let value = is.value in
      (small_number f (omega (arith, there, functions)), small_number i (omega (arith, place, places)), small_number a (omega (arith, value, size, most)))

  small_step : (history : List Event) (k : ℕ) (step : Step) → Allowed P history k step → is_small_step step ≡ true
  small_step history k (Project f i a m) is = let s = small_place f i a is.0 in and_from _ _ s.0 (and_from _ _ s.1 s.2)
  small_step history k (Extend f i a m) is = let s = small_place f i a is.0 in and_from _ _ s.0 (and_from _ _ s.1 s.2)
  small_step history k (Lift x m) is = let there = is.0 in let few = network.few in small_number x (omega (arith, there, few))
  small_step history k (CutValue x a) is = let s = small_value x a is.0 in and_from _ _ s.0 s.1
  small_step history k (CutTuple f c) is =
      let there = is.0.function in
      let functions = network.few_functions in
      let cell = is.0.cell in
      let few = (network.functions f is.0.function).few in
      and_from _ _ (small_number f (omega (arith, there, functions))) (small_number c (omega (arith, cell, few)))

  small_decision : (d : Decision) → IsDecision P d → is_small_decision d ≡ true
  small_decision (Is x a) is = let s = small_value x a is in and_from _ _ s.0 s.1
  small_decision (Most x v) is = let s = small_value x v is in and_from _ _ s.0 s.1

  front_is : (history : List Event) (k : ℕ) (block : List Step) → Run P history block k → small_front block ≡ block
  front_is history k [] runs = refl
  front_is history k (step ∷ block) runs =
      ap (λ t. if t then step ∷ small_front block else []) (small_step history k step runs.0) ∙ ap (λ l. step ∷ l) (front_is (Did step ∷ history) k block runs.1)

  all_small : (history : List Event) (k : ℕ) (block : List Step) → Run P history block k → are_small block ≡ true
  all_small history k [] runs = refl
  all_small history k (step ∷ block) runs = ap (λ t. if t then are_small block else false) (small_step history k step runs.0) ∙ all_small (Did step ∷ history) k block runs.1

  pub narrowed_is : (history : List Event) (k : ℕ) (tree : Tree) → Valid P history tree k → narrowed tree ≡ tree
  narrowed_is history k (Open block) valid = ap (λ l. Open l) (front_is history k block valid)
  narrowed_is history k (Closed block) valid = ap (λ t. if t then Closed block else Open (small_front block)) (all_small history k block valid.0)
  narrowed_is history k (Split block d first second) valid =
      ap (λ t. if t then Split block d (narrowed first) (narrowed second) else Open (small_front block)) (and_from _ _ (all_small history k block valid.0) (small_decision d valid.1))
      ∙ ap₂ (λ x y. Split block d x y) (narrowed_is (Took d ∷ after block history) k first valid.2) (narrowed_is (Refused d ∷ after block history) k second valid.3)

-- What is noted, kind by kind and step by step.
use Rattle.std.proofs.Common.{◌≡◌, ◌⊎◌, ℕ, zero, suc, ◌+◌, ◌-◌, ◌<◌, ◌≤◌, inl, inr, List, [], ◌∷◌, ◌++◌, length, get_or, take, drop, get_or-drop, refl, sym, ap, ◌∙◌, subst, arith}
use Rattle.std.proofs.lemmas.List.{take_more, take-append-drop, length-drop}
use Rattle.std.specs.Prelude.{Option, Some, None, IfSome}
use Rattle.cfn_model.specs.declared.step.Step.{Step}
use Rattle.cfn_model.specs.declared.step.Step.TheVariants.{Project}
use Rattle.cfn_model.specs.declared.step.Decision.{Decision}
use Rattle.cfn_model.specs.declared.step.Event.{Event}
use Rattle.cfn_model.specs.declared.step.Event.TheVariants.{Did, Took, Refused}
use Rattle.cfn_model.specs.Decisions.{variable_of}
use Rattle.cfn_model.specs.Network.{Network, IsNetwork, variable_at}
use Rattle.cfn_model.specs.Steps.{InRange, after}
use Rattle.cfn_scan.specs.Exact.{AllInPlace, IsExactAlong}
use Rattle.cfn_queue.specs.Waiting.{Waiting, with_item}
use Rattle.cfn_due.specs.declared.last.Last.{Last}
use Rattle.cfn_due.specs.Dues.{Dues, Holds}
use Rattle.cfn_due.specs.Going.{IsOn, IsUpper, IsNear, GoesArc, GoesDirected, GoesExisting, ArePut, IsNoted, GoesWithOne, AreNoted}
use Rattle.cfn_due.specs.Remembered.{IsLast}
use Rattle.cfn_due.proofs.Putting.{all_stay, put_none, put_one, put_then}
use Rattle.cfn_due.proofs.Staying.{holding_goes_along}

pub put_is : (old new : Waiting) (x : ℕ) → new ≡ with_item old x → ArePut old new (λ i. x ≡ i)
put_is old new x is = subst (λ queue. ArePut old queue (λ i. x ≡ i)) (sym is) (put_one old x)

-- what was put last goes on to wait
if_more : {A B : ℕ → Type 0} (option : Option ℕ) → ((x : ℕ) → A x → B x) → IfSome option A → IfSome option B
if_more (Some x) more fact = more x fact
if_more None more fact = fact

pub last_stays : (P : Network) (last : Last) (old new : Dues) (Arcs Directed Existing : ℕ → Type 0) → ArePut old.arcs new.arcs Arcs → ArePut old.directed new.directed Directed → ArePut old.existing new.existing Existing → IsLast P last old → IsLast P last new
last_stays P last old new Arcs Directed Existing arcs directed existing is = record {
  risen = if_more last.risen (λ x all.
      (all_stay old.directed new.directed Directed (IsUpper P x) directed all.0, all_stay old.existing new.existing Existing (IsNear P x) existing all.1)) is.risen;
  lost = if_more last.lost (λ x all. all_stay old.arcs new.arcs Arcs (IsOn P x) arcs all) is.lost;
  changed = if_more last.changed (λ f all. (
    all_stay old.arcs new.arcs Arcs (λ g. f ≡ g) arcs all.0,
    all_stay old.directed new.directed Directed (λ g. f ≡ g) directed all.1,
    all_stay old.existing new.existing Existing (λ x. IsOn P x f) existing all.2,
  )) is.changed;
}

pub none_goes : (queue : Waiting) → ArePut queue queue (λ i. ⊥)
none_goes queue = put_none queue (λ i. ⊥) (λ i none. absurd none)

-- a project to the variable at a place of a function
pub noted_project : (P : Network) (step : Step) (f i a m x : ℕ) (old new : Dues) → step ≡ Project f i a m → x ≡ variable_at P f i → new.arcs ≡ old.arcs → ArePut old.directed new.directed (IsUpper P x) → ArePut old.existing new.existing (IsNear P x) → IsNoted P (Did step) old new
noted_project P step f i a m x old new is at arcs directed existing =
    subst (λ s. IsNoted P (Did s) old new) (sym is) (record {
      arcs = subst (λ queue. ArePut old.arcs queue (λ g. ⊥)) (sym arcs) (none_goes old.arcs);
      directed = subst (λ v. ArePut old.directed new.directed (IsUpper P v)) at directed;
      existing = subst (λ v. ArePut old.existing new.existing (IsNear P v)) at existing;
    })

-- a side of a split
pub noted_side : (P : Network) (event : Event) (d : Decision) (x : ℕ) (old new : Dues) → (event ≡ Took d) ⊎ (event ≡ Refused d) → x ≡ variable_of d → ArePut old.arcs new.arcs (IsOn P x) → ArePut old.directed new.directed (IsUpper P x) → ArePut old.existing new.existing (IsNear P x) → IsNoted P event old new
noted_side P event d x old new side at arcs directed existing =
    let on = subst (λ v. ArePut old.arcs new.arcs (IsOn P v)) at arcs in
    let around = subst (λ v. ArePut old.directed new.directed (IsUpper P v)) at directed in
    let near = subst (λ v. ArePut old.existing new.existing (IsNear P v)) at existing in
    elim side [
      | inl is ↦ subst (λ e. IsNoted P e old new) (sym is) (record { arcs = on; directed = around; existing = near })
      | inr is ↦ subst (λ e. IsNoted P e old new) (sym is) (record { arcs = on; directed = around; existing = near })
    ]

-- steps, one after another
pub goes_split : (Goes : Event → ℕ → Type 0) (steps : List Step) (step : Step) (i : ℕ) → GoesWithOne Goes (steps ++ step ∷ []) i → GoesWithOne Goes steps i ⊎ Goes (Did step) i
goes_split Goes [] step i (inl goes) = inr goes
goes_split Goes [] step i (inr none) = absurd none
goes_split Goes (first ∷ steps) step i (inl goes) = inl (inl goes)
goes_split Goes (first ∷ steps) step i (inr goes) = (elim (goes_split Goes steps step i goes) [
  | inl before ↦ inl (inr before)
  | inr here ↦ inr here
])

goes_before : (Goes : Event → ℕ → Type 0) (steps : List Step) (step : Step) (i : ℕ) → GoesWithOne Goes steps i → GoesWithOne Goes (steps ++ step ∷ []) i
goes_before Goes [] step i goes = absurd goes
goes_before Goes (first ∷ steps) step i (inl goes) = inl goes
goes_before Goes (first ∷ steps) step i (inr goes) = inr (goes_before Goes steps step i goes)

goes_here : (Goes : Event → ℕ → Type 0) (steps : List Step) (step : Step) (i : ℕ) → Goes (Did step) i → GoesWithOne Goes (steps ++ step ∷ []) i
goes_here Goes [] step i goes = inl goes
goes_here Goes (first ∷ steps) step i goes = inr (goes_here Goes steps step i goes)

put_more : (Goes : Event → ℕ → Type 0) (steps : List Step) (step : Step) (old middle new : Waiting) → ArePut old middle (GoesWithOne Goes steps) → ArePut middle new (Goes (Did step)) → ArePut old new (GoesWithOne Goes (steps ++ step ∷ []))
put_more Goes steps step old middle new first second =
    put_then old middle new (GoesWithOne Goes steps) (Goes (Did step)) (GoesWithOne Goes (steps ++ step ∷ [])) first second
    (goes_split Goes steps step) (goes_before Goes steps step) (goes_here Goes steps step)

noted_more : (P : Network) (steps : List Step) (step : Step) (old middle new : Dues) → AreNoted P steps old middle → IsNoted P (Did step) middle new → AreNoted P (steps ++ step ∷ []) old new
noted_more P steps step old middle new first second = record {
  arcs = put_more (GoesArc P) steps step old.arcs middle.arcs new.arcs first.arcs second.arcs;
  directed = put_more (GoesDirected P) steps step old.directed middle.directed new.directed first.directed second.directed;
  existing = put_more (GoesExisting P) steps step old.existing middle.existing new.existing first.existing second.existing;
}

pub none_noted : (P : Network) (due : Dues) (steps : List Step) (n : ℕ) → n ≡ 0 → AreNoted P (take n steps) due due
none_noted P due steps n is = subst (λ m. AreNoted P (take m steps) due due) (sym is) (record {
  arcs = none_goes due.arcs;
  directed = none_goes due.directed;
  existing = none_goes due.existing;
})

-- the steps of a block from a number on, up to one more
pub noted_next : (P : Network) (block : List Step) (start i : ℕ) (step : Step) (old middle new : Dues) → start ≤ i → i < length block → get_or block i step ≡ step → AreNoted P (take (i - start) (drop start block)) old middle → IsNoted P (Did step) middle new → AreNoted P (take (i + 1 - start) (drop start block)) old new
noted_next P block start i step old middle new from there is first second =
    let n = i - start in
    let more : n + 1 ≡ i + 1 - start = omega (arith, from) in
    let back : start + n ≡ i = omega (arith, from) in
    let long = length-drop start block in
    let at : get_or (drop start block) n step ≡ step = get_or-drop start block n step ∙ ap (λ j. get_or block j step) back ∙ is in
    let all : take (n + 1) (drop start block) ≡ take n (drop start block) ++ step ∷ [] =
    take_more (drop start block) n step (omega (arith, there, from, long)) ∙ ap (λ s. take n (drop start block) ++ s ∷ []) at in
    subst (λ m. AreNoted P (take m (drop start block)) old new) more
    (subst (λ steps. AreNoted P steps old new) (sym all) (noted_more P (take n (drop start block)) step old middle new first second))

-- each step of a store's block is in range
here_in_place : (P : Network) (steps : List Step) (history : List Event) → AllInPlace P (after steps history) → AllInPlace P history
here_in_place P [] history all = all
here_in_place P (step ∷ steps) history all = (here_in_place P steps (Did step ∷ history) all).1

pub step_in_range : (P : Network) (block : List Step) (base : List Event) (i : ℕ) (step : Step) → i < length block → AllInPlace P (after block base) → InRange P (get_or block i step)
step_in_range P [] base i step h all = absurd (omega (arith, h))
step_in_range P (first ∷ block) base zero step h all = (here_in_place P block (Did first ∷ base) all).0
step_in_range P (first ∷ block) base (suc i) step h all = step_in_range P block (Did first ∷ base) i step (omega (arith, h)) all

-- and what was noted of the block holds behind it
pub after_joined : (first second : List Step) (base : List Event) → after (first ++ second) base ≡ after second (after first base)
after_joined [] second base = refl
after_joined (step ∷ first) second base = after_joined first second (Did step ∷ base)

pub block_holds : (P : Network) (block : List Step) (base : List Event) (start : ℕ) (old new : Dues) → IsNetwork P → IsExactAlong P (after block base) → AreNoted P (drop start block) old new → Holds P (after (take start block) base) old → Holds P (after block base) new
block_holds P block base start old new net exact noted holds =
    let whole : after block base ≡ after (drop start block) (after (take start block) base) =
    ap (λ steps. after steps base) (sym (take-append-drop start block)) ∙ after_joined (take start block) (drop start block) base in
    subst (λ h. Holds P h new) (sym whole) (holding_goes_along P (after (take start block) base) (drop start block) old new net (subst (IsExactAlong P) whole exact) noted holds)

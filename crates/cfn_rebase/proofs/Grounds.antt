-- Where a store stands once a step is made, and once it is back at a place.
use Rattle.std.proofs.Common.{◌≡◌, ℕ, List, [], ◌∷◌, ◌++◌, length, reverse, take, sym, ap, ◌∙◌, subst}
use Rattle.std.proofs.lemmas.List.{reverse-append, reverse-reverse, length-reverse, take_at}
use Rattle.std.specs.Prelude.{true}
use Rattle.cfn_model.specs.declared.step.Step.{Step}
use Rattle.cfn_model.specs.declared.step.Step.TheVariants.{Project, Extend, Lift, CutValue, CutTuple}
use Rattle.cfn_model.specs.declared.step.Event.{Event}
use Rattle.cfn_model.specs.declared.step.Event.TheVariants.{Did}
use Rattle.cfn_model.specs.Network.{Network}
use Rattle.cfn_model.specs.Paths.{HasSmallCosts, TameBlock}
use Rattle.cfn_model.specs.Steps.{Allowed, after}
use Rattle.cfn_proof.proofs.CallerLemmas.{after_append}
use Rattle.cfn_scan.specs.Exact.{IsExactAlong}
use Rattle.cfn_store.specs.Marking.{IsBehind}
use Rattle.cfn_store.specs.Standing.{Standing, history, with_step}
use Rattle.cfn_scan.proofs.CallerLemmas.{exact_now}
use Rattle.cfn_rebase.specs.Making.{CanMake, IsTried}

-- the events up to a place on the way
pub back_events : (events : List Event) (s m : Standing) (n : ℕ) → reverse events ≡ history s → IsBehind m s → n ≡ length (history m) → reverse (take n events) ≡ history m
back_events events s m n same behind is =
    let whole : events ≡ reverse (history m) ++ reverse behind.later = sym (reverse-reverse events) ∙ ap reverse (same ∙ behind.path) ∙ reverse-append behind.later (history m) in
    ap reverse (ap (take n) whole ∙ take_at (reverse (history m)) (reverse behind.later) n (length-reverse (history m) ∙ sym is)) ∙ reverse-reverse (history m)

pub step_events : (events : List Event) (s : Standing) (step : Step) → reverse events ≡ history s → reverse (events ++ Did step ∷ []) ≡ history (with_step s step)
step_events events s step same = reverse-append events (Did step ∷ []) ∙ ap (λ t. Did step ∷ t) same ∙ sym (after_append s.block (step ∷ []) s.base)

can_allowed : (s : Standing) (k : ℕ) (step : Step) → CanMake s k step → Allowed s.network (history s) k step
can_allowed s k (Project f i a m) can = (can.place, can.some, can.enough)
can_allowed s k (Extend f i a m) can = (can.place, can.some, can.enough)
can_allowed s k (Lift x m) can = (can.variable, can.some, can.enough)
can_allowed s k (CutValue x a) can = can
can_allowed s k (CutTuple f c) can = can

pub made : (old mid new : Standing) (k : ℕ) (step : Step) → mid.network ≡ old.network → mid.base ≡ old.base → mid.block ≡ old.block → new ≡ with_step mid step → CanMake old k step → IsExactAlong new.network (history new) → IsTried old k step new true
made old mid new k step network base block is can exact =
    let at : history new ≡ Did step ∷ history old = ap history is ∙ after_append mid.block (step ∷ []) mid.base ∙ ap (λ b. Did step ∷ after b mid.base) block ∙ ap (λ h. Did step ∷ after old.block h) base in
    let same : new.network ≡ old.network = ap (λ (s : Standing). s.network) is ∙ network in
    let small : HasSmallCosts old.network (Did step ∷ history old) = subst (λ P. HasSmallCosts P (Did step ∷ history old)) same (subst (HasSmallCosts new.network) at (exact_now new.network (history new) exact).small) in
    ((can_allowed old k step can, small), same, ap (λ (s : Standing). s.base) is ∙ base, ap (λ (s : Standing). s.block) is ∙ ap (λ b. b ++ step ∷ []) block)

-- where costs are exact along a path, they are small along the block at its end
exact_before : (P : Network) (path : List Event) (block : List Step) → IsExactAlong P (after block path) → IsExactAlong P path
exact_before P path [] is = is
exact_before P path (step ∷ block) is = (exact_before P (Did step ∷ path) block is).1

pub tame_block : (P : Network) (path : List Event) (block : List Step) → IsExactAlong P (after block path) → TameBlock P path block
tame_block P path [] is = (exact_now P path is).small
tame_block P path (step ∷ block) is = ((exact_now P path (exact_before P path (step ∷ block) is)).small, tame_block P (Did step ∷ path) block is)

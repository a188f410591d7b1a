-- Costs are exact along a path that runs at some threshold and keeps costs small.
use Rattle.std.proofs.Common.{◌≡◌, ℕ, List, [], ◌∷◌, ◌++◌, reverse, refl, ap, subst, ◌∙◌, append_assoc}
use Rattle.std.proofs.lemmas.List.{reverse-append}
use mathlib.Core.List.{reverse-cons}
use Rattle.cfn_model.specs.declared.step.Step.{Step}
use Rattle.cfn_model.specs.declared.step.Step.TheVariants.{Project, Extend, Lift, CutValue, CutTuple}
use Rattle.cfn_model.specs.declared.step.Event.{Event}
use Rattle.cfn_model.specs.declared.step.Event.TheVariants.{Did, Took, Refused}
use Rattle.cfn_model.specs.Network.{Network, IsNetwork}
use Rattle.cfn_model.specs.Steps.{Allowed, InRange}
use Rattle.cfn_model.specs.Paths.{RunsAlong, TameAlong}
use Rattle.cfn_scan.specs.Exact.{IsExact, IsExactAlong, HasNoDebts}
use Rattle.cfn_scan.proofs.CallerLemmas.{exact_here, exact_behind}
use Rattle.cfn_store.proofs.Debts.{exact_at_root, debts_project, debts_extend, debts_lift, debts_still}

in_range : (P : Network) (history : List Event) (k : ℕ) (step : Step) → Allowed P history k step → InRange P step
in_range P history k (Project f i a m) allowed = allowed.0
in_range P history k (Extend f i a m) allowed = allowed.0
in_range P history k (Lift x m) allowed = allowed.0
in_range P history k (CutValue x a) allowed = allowed.0
in_range P history k (CutTuple f c) allowed = allowed.0

no_debts : (P : Network) (history : List Event) (k : ℕ) (step : Step) → Allowed P history k step → HasNoDebts P history → HasNoDebts P (Did step ∷ history)
no_debts P history k (Project f i a m) allowed old = debts_project P history f i a m allowed.2 old
no_debts P history k (Extend f i a m) allowed old = debts_extend P history f i a m allowed.2 old
no_debts P history k (Lift x m) allowed old = debts_lift P history x m allowed.2 old
no_debts P history k (CutValue x a) allowed old = debts_still P history (Did (CutValue x a)) (λ y b. refl) (λ f tuple. refl) old
no_debts P history k (CutTuple f c) allowed old = debts_still P history (Did (CutTuple f c)) (λ y b. refl) (λ g tuple. refl) old

pub exact_path : (P : Network) (path : List Event) (k : ℕ) → IsNetwork P → RunsAlong P path k → TameAlong P path → IsExactAlong P path
exact_path P [] k net runs tame = exact_at_root P net
exact_path P (Did step ∷ path) k net runs tame =
    let before = exact_path P path k net runs.1 tame.1 in
    let old = exact_here P path before in
    (record { small = tame.0; no_debts = no_debts P path k step runs.0 old.no_debts; range = (in_range P path k step runs.0, old.range) }, before)
exact_path P (Took d ∷ path) k net runs tame =
    let before = exact_path P path k net runs.1 tame.1 in
    let old = exact_here P path before in
    (record { small = tame.0; no_debts = debts_still P path (Took d) (λ y b. refl) (λ f tuple. refl) old.no_debts; range = (runs.0, old.range) }, before)
exact_path P (Refused d ∷ path) k net runs tame =
    let before = exact_path P path k net runs.1 tame.1 in
    let old = exact_here P path before in
    (record { small = tame.0; no_debts = debts_still P path (Refused d) (λ y b. refl) (λ f tuple. refl) old.no_debts; range = (runs.0, old.range) }, before)

-- the next event of events that are exact along
pub exact_next : (P : Network) (made left : List Event) (event : Event) → IsExactAlong P (reverse (made ++ event ∷ left)) → IsExact P (event ∷ reverse made)
exact_next P made left event along =
    let whole : reverse (made ++ event ∷ left) ≡ reverse left ++ event ∷ reverse made =
    reverse-append made (event ∷ left) ∙ ap (λ l. l ++ reverse made) (reverse-cons event left) ∙ append_assoc (reverse left) (event ∷ []) (reverse made) in
    exact_here P (event ∷ reverse made) (exact_behind P (reverse left) (event ∷ reverse made) (subst (IsExactAlong P) whole along))

-- What becomes of a walk at each line of a node.
use Rattle.std.proofs.Common.{◌≡◌, ℕ, suc, ◌-◌, ◌≤◌, List, [], ◌∷◌, length, drop, refl, sym, ap, ap₂, ◌∙◌, subst, arith}
use Rattle.std.proofs.lemmas.List.{drop-drop, length-drop}
use Rattle.std.specs.Prelude.{Bool, true, false}
use Rattle.cfn_model.specs.declared.step.Step.{Step}
use Rattle.cfn_model.specs.declared.step.Event.{Event}
use Rattle.cfn_model.specs.declared.step.Event.TheVariants.{Did, Took, Refused}
use Rattle.cfn_model.specs.Network.{Network}
use Rattle.cfn_model.specs.Steps.{IsDecision, Allowed}
use Rattle.cfn_fault.specs.Fault.{FailsStep, OutOfRange, refusal_of}
use Rattle.cfn_fault.specs.Fault as fault
use Rattle.cfn_check.specs.declared.asked.Judged.{Judged}
use Rattle.cfn_check.specs.declared.asked.Judged.TheVariants.{Done, Range, NotAllowed}
use Rattle.cfn_check.specs.declared.owed.Owed.{Owed}
use Rattle.cfn_check.specs.Standing.{Standing, with_event, without}
use Rattle.cfn_check.specs.Asking.{IsJudged}
use Rattle.cfn_check.specs.Walking.{Walking, owed_paths, due_paths, AreOwed, with_paths, fault_of, Steps, Splits}

-- more events on the path change nothing of what is owed
pub owed_longer : (P : Network) (n m : ℕ) (owed : List Owed) → n ≤ m → AreOwed P n owed → AreOwed P m owed
owed_longer P n m [] l h = tt
owed_longer P n m (o ∷ owed) l h = (omega (arith, h.0), h.1, h.2)

pub owed_kept : (P : Network) (event : Event) (history : List Event) (n : ℕ) (owed : List Owed) → n ≤ length history → AreOwed P n owed → owed_paths (event ∷ history) owed ≡ owed_paths history owed
owed_kept P event history n [] l h = refl
owed_kept P event history n (o ∷ owed) l h =
    let e : suc (length history) - o.mark.events ≡ suc (length history - o.mark.events) = omega (arith, h.0) in
    let d = ap (λ k. drop k (event ∷ history)) e in
    ap₂ (λ x xs. (Refused o.decision ∷ x) ∷ xs) d (owed_kept P event history o.mark.events owed (omega (arith, h.0)) h.2)

-- going back to a mark changes nothing of what was owed before it
pub owed_undone : (P : Network) (history : List Event) (n m : ℕ) (owed : List Owed) → m ≤ n → n ≤ length history → AreOwed P m owed → owed_paths (drop (length history - n) history) owed ≡ owed_paths history owed
owed_undone P history n m [] l k h = refl
owed_undone P history n m (o ∷ owed) l k h =
    let long = length-drop (length history - n) history in
    let d : drop (length (drop (length history - n) history) - o.mark.events) (drop (length history - n) history) ≡ drop (length history - o.mark.events) history
    = drop-drop (length (drop (length history - n) history) - o.mark.events) (length history - n) history ∙ ap (λ j. drop j history) (omega (arith, long, h.0)) in
    ap₂ (λ x xs. (Refused o.decision ∷ x) ∷ xs) d (owed_undone P history n o.mark.events owed (omega (arith, h.0)) k h.2)

abbrev pub walking : ℕ → ℕ → Bool → List Owed → Standing → Walking
walking k least over owed s = record { network = s.network; threshold = k; paths = due_paths over s.history owed; least = least }

-- what a path is, where one is due
pub record DueFirst (over : Bool) (now : List Event) (owed : List Owed) (history : List Event) (paths : List (List Event)) : Type 0 where
  pub due : over ≡ false
  pub first : now ≡ history
  pub rest : owed_paths now owed ≡ paths

heads : {A : Type 0} {x y : A} {xs ys : List A} → x ∷ xs ≡ y ∷ ys → x ≡ y
heads e = cc

tails : {A : Type 0} {x y : A} {xs ys : List A} → x ∷ xs ≡ y ∷ ys → xs ≡ ys
tails e = cc

pub due_first : (over : Bool) (now : List Event) (owed : List Owed) (history : List Event) (paths : List (List Event)) → due_paths over now owed ≡ history ∷ paths → DueFirst over now owed history paths
due_first true now owed history paths e = absurd (cc)
due_first false now owed history paths e = record { due = refl; first = heads e; rest = tails e }

pub stepped : (s s' : Standing) (k least : ℕ) (over : Bool) (owed : List Owed) (step : Step) (judged : Judged) → AreOwed s.network (length s.history) owed → IsJudged s k step s' judged → (history : List Event) (paths : List (List Event)) → due_paths over s.history owed ≡ history ∷ paths → Steps (walking k least over owed s) (walking k least over owed s') step history paths (fault_of judged step)
stepped s s' k least over owed step Done are is history paths e =
    let d = due_first over s.history owed history paths e in (
      subst (λ h. Allowed s.network h k step) d.first is.0,
      ap (walking k least over owed) is.1
          ∙ ap (λ ps. record { network = s.network; threshold = k; paths = ps; least = least }) (ap (λ b. due_paths b (Did step ∷ s.history) owed) d.due ∙ ap₂ (λ h hs. (Did step ∷ h) ∷ hs) d.first (owed_kept s.network (Did step) s.history (length s.history) owed (omega arith) are ∙ d.rest)),
    )
stepped s s' k least over owed step Range are is history paths e = fault.OutOfRange refl is.0
stepped s s' k least over owed step NotAllowed are is history paths e =
    let d = due_first over s.history owed history paths e in
    fault.NotAllowed refl is.0 (λ can. is.1 (subst (λ h. Allowed s.network h k step) (sym d.first) can))

pub judged_longer : (s s' : Standing) (k : ℕ) (step : Step) (judged : Judged) → IsJudged s k step s' judged → length s.history ≤ length s'.history
judged_longer s s' k step Done is = let e = ap (λ z. length z.history) is.1 in omega (arith, e)
judged_longer s s' k step Range is = let e = ap (λ z. length z.history) is.1 in omega (arith, e)
judged_longer s s' k step NotAllowed is = let e = ap (λ z. length z.history) is.2 in omega (arith, e)

-- a leaf that leads to a second side
pub left : (s s' : Standing) (k least : ℕ) (over : Bool) (o : Owed) (owed : List Owed) → AreOwed s.network (length s.history) (o ∷ owed) → s' ≡ with_event (Refused o.decision) (without (length s.history - o.mark.events) s) → (history : List Event) (paths : List (List Event)) → due_paths over s.history (o ∷ owed) ≡ history ∷ paths → walking k least over owed s' ≡ with_paths paths (walking k least over (o ∷ owed) s)
left s s' k least over o owed are is history paths e =
    let d = due_first over s.history (o ∷ owed) history paths e in
    let back = drop (length s.history - o.mark.events) s.history in
    let long : length back ≡ o.mark.events = omega (arith, length-drop (length s.history - o.mark.events) s.history, are.0) in
    let rest : owed_paths (Refused o.decision ∷ back) owed ≡ owed_paths s.history owed = owed_kept s.network (Refused o.decision) back o.mark.events owed (omega arith) are.2 ∙ owed_undone s.network s.history o.mark.events o.mark.events owed (omega arith) are.0 are.2 in
    ap (walking k least over owed) is
    ∙ ap (λ ps. record { network = s.network; threshold = k; paths = ps; least = least }) (ap (λ b. due_paths b (Refused o.decision ∷ back) owed) d.due ∙ ap (λ hs. (Refused o.decision ∷ back) ∷ hs) rest ∙ d.rest)

-- a split
pub parted : (s s' : Standing) (k least : ℕ) (over : Bool) (owed : List Owed) (o : Owed) → o.mark.events ≡ length s.history → AreOwed s.network (length s.history) owed → IsDecision s.network o.decision → s' ≡ with_event (Took o.decision) s → (history : List Event) (paths : List (List Event)) → due_paths over s.history owed ≡ history ∷ paths → Splits (walking k least over owed s) (walking k least over (o ∷ owed) s') o.decision history paths true
parted s s' k least over owed o mark are decision is history paths e =
    let d = due_first over s.history owed history paths e in
    let none : suc (length s.history) - o.mark.events ≡ 1 = omega (arith, mark) in
    let back : drop (suc (length s.history) - o.mark.events) (Took o.decision ∷ s.history) ≡ s.history = ap (λ n. drop n (Took o.decision ∷ s.history)) none in
    let other : (Refused o.decision ∷ drop (suc (length s.history) - o.mark.events) (Took o.decision ∷ s.history)) ≡ Refused o.decision ∷ history = ap (λ h. Refused o.decision ∷ h) (back ∙ d.first) in
    let more = owed_kept s.network (Took o.decision) s.history (length s.history) owed (omega arith) are in (
      decision,
      ap (walking k least over (o ∷ owed)) is
          ∙ ap (λ ps. record { network = s.network; threshold = k; paths = ps; least = least }) (ap (λ b. due_paths b (Took o.decision ∷ s.history) (o ∷ owed)) d.due ∙ ap₂ (λ h hs. (Took o.decision ∷ h) ∷ hs) d.first (ap₂ (λ p ps. p ∷ ps) other (more ∙ d.rest))),
    )

pub still_owed : (s s' : Standing) (o : Owed) (owed : List Owed) → AreOwed s.network (length s.history) (o ∷ owed) → s' ≡ with_event (Refused o.decision) (without (length s.history - o.mark.events) s) → AreOwed s'.network (length s'.history) owed
still_owed s s' o owed are is =
    let back = length-drop (length s.history - o.mark.events) s.history in
    subst (λ (z : Standing). AreOwed z.network (length z.history) owed) (sym is) (owed_longer s.network o.mark.events (suc (length (drop (length s.history - o.mark.events) s.history))) owed (omega (arith, back, are.0)) are.2)

-- What a store stands for, from the events that it keeps.
use Rattle.std.proofs.Common.{◌≡◌, ◌⊎◌, inl, inr, ℕ, zero, suc, ◌+◌, ◌-◌, ◌<◌, ◌≤◌, List, [], ◌∷◌, ◌++◌, length, set, get_or, reverse, take, drop, refl, sym, ap, subst, ◌∙◌, arith, take_all, get_or-drop}
use Rattle.std.proofs.lemmas.List.{reverse-append, take-append-drop, take-append-le, drop-append-le, length-append, length-drop, drop_all}
use Rattle.std.specs.List.{AllByRecursion}
use Rattle.std.specs.Prelude.{slice_index, if◌then◌else◌}
use Rattle.cfn_model.specs.declared.step.Step.{Step}
use Rattle.cfn_model.specs.declared.step.Step.TheVariants.{Project, Extend, Lift, CutValue, CutTuple}
use Rattle.cfn_model.specs.declared.step.Event.{Event}
use Rattle.cfn_model.specs.declared.step.Event.TheVariants.{Did, Took, Refused}
use Rattle.cfn_model.specs.declared.step.Decision.{Decision}
use Rattle.cfn_model.specs.Network.{Network}
use Rattle.cfn_model.specs.Steps.{IsValue, IsCell, IsDecision}
use Rattle.cfn_model.specs.Text.{IsSpelledStep}
use Rattle.cfn_model.specs.Sums.{is_live}
use Rattle.cfn_rows.specs.Sets.{Sets, AreLive, live_below, live_count}
use Rattle.cfn_store.specs.declared.state.State.{State}
use Rattle.cfn_store.specs.Events.{steps_in, AllSteps}
use Rattle.cfn_scan.specs.Exact.{IsExact, IsExactAlong, LiftsFit}
use Rattle.cfn_store.specs.Standing.{Standing, history, with_step, with_side, FitsProject, FitsExtend, FitsLift}
use Rattle.cfn_store.specs.Peaks.{HasPeak, ArePeaks}
use Rattle.cfn_store.specs.State.{Keeps, IsState, HasRoom, history_of}
use Rattle.cfn_store.specs.Kept.{IsStore}
use Rattle.cfn_store.proofs.Entering.{same_kept}
use Rattle.cfn_store.proofs.Peaking.{peaks_noted}
use Rattle.cfn_scan.proofs.CallerLemmas.{exact_here}
use Rattle.cfn_store.proofs.Along.{live_by_removals, after_steps, steps_more, all_more}
use Rattle.cfn_store.proofs.Debts.{small_project, small_extend, small_lift, small_still, debts_project, debts_extend, debts_lift, debts_still}

-- what the parts of a store stand for
abbrev pub view_of : Network → ℕ → ℕ → State → Standing
view_of P begin most s = record {
  network = P;
  base = reverse (take begin s.trail.items);
  block = steps_in (drop begin s.trail.items);
  spare = most - length s.trail.items;
}

pub same_standing : (P : Network) {b d : List Event} {c e : List Step} {n m : ℕ} → b ≡ d → c ≡ e → n ≡ m → mathlib.Core.Path.◌≡◌ {A = Standing} (record { network = P; base = b; block = c; spare = n }) (record { network = P; base = d; block = e; spare = m })
same_standing P base block spare = λ i. record { network = P; base = base i; block = block i; spare = spare i }

pub history_is : (P : Network) (begin most : ℕ) (s : State) → AllSteps (drop begin s.trail.items) → history (view_of P begin most s) ≡ history_of s
history_is P begin most s steps =
    after_steps (drop begin s.trail.items) (reverse (take begin s.trail.items)) steps
    ∙ sym (reverse-append (take begin s.trail.items) (drop begin s.trail.items))
    ∙ ap reverse (take-append-drop begin s.trail.items)

pub newest : (events : List Event) (event : Event) → reverse (events ++ event ∷ []) ≡ event ∷ reverse events
newest events event = reverse-append events (event ∷ [])

all_spelled : (steps : List Step) (step : Step) → AllByRecursion IsSpelledStep steps → IsSpelledStep step → AllByRecursion IsSpelledStep (steps ++ step ∷ [])
all_spelled [] step all is = (is, tt {0})
all_spelled (first ∷ steps) step all is = (all.0, all_spelled steps step all.1 is)

-- a store goes on by a step
pub step_kept : (P : Network) (begin most : ℕ) (old new : State) (step : Step) → IsStore P begin most old → length old.trail.items < most → IsSpelledStep step → IsState P new → HasRoom most new → new.trail.items ≡ old.trail.items ++ Did step ∷ [] → IsStore P begin most new
step_kept P begin most old new step is l spelled state room trail =
    let n = length-append old.trail.items (Did step ∷ []) in
    let m = ap length trail in
    let behind : drop begin new.trail.items ≡ drop begin old.trail.items ++ Did step ∷ [] = ap (drop begin) trail ∙ drop-append-le begin old.trail.items (Did step ∷ []) is.base in
    record {
      state = state;
      room = room;
      within = omega (arith, n, m, l);
      base = let b = is.base in omega (arith, n, m, b);
      steps = subst AllSteps (sym behind) (all_more (drop begin old.trail.items) step is.steps);
      spelled = subst (λ events. AllByRecursion IsSpelledStep (steps_in events)) (sym behind) (subst (AllByRecursion IsSpelledStep) (sym (steps_more (drop begin old.trail.items) step)) (all_spelled (steps_in (drop begin old.trail.items)) step is.spelled spelled));
    }

pub step_view : (P : Network) (begin most : ℕ) (old new : State) (step : Step) → IsStore P begin most old → new.trail.items ≡ old.trail.items ++ Did step ∷ [] → view_of P begin most new ≡ with_step (view_of P begin most old) step
step_view P begin most old new step is trail =
    let n = length-append old.trail.items (Did step ∷ []) in
    let front : take begin new.trail.items ≡ take begin old.trail.items = ap (take begin) trail ∙ take-append-le begin old.trail.items (Did step ∷ []) is.base in
    let behind : drop begin new.trail.items ≡ drop begin old.trail.items ++ Did step ∷ [] = ap (drop begin) trail ∙ drop-append-le begin old.trail.items (Did step ∷ []) is.base in
    let fewer : most - length new.trail.items ≡ most - length old.trail.items - 1 = (let m = ap length trail in omega (arith, n, m)) in
    same_standing P (ap reverse front) (ap steps_in behind ∙ steps_more (drop begin old.trail.items) step) fewer

-- a store goes to a side of a split
pub side_kept : (P : Network) (begin most : ℕ) (old new : State) (side : Event) → IsStore P begin most old → length old.trail.items < most → IsState P new → HasRoom most new → new.trail.items ≡ old.trail.items ++ side ∷ [] → IsStore P (length new.trail.items) most new
side_kept P begin most old new side is l state room trail =
    let n = length-append old.trail.items (side ∷ []) in
    let m = ap length trail in
    let none : drop (length new.trail.items) new.trail.items ≡ [] = drop_all (length new.trail.items) new.trail.items (omega arith) in
    record {
      state = state;
      room = room;
      within = omega (arith, n, m, l);
      base = omega arith;
      steps = subst AllSteps (sym none) (tt {0});
      spelled = subst (λ events. AllByRecursion IsSpelledStep (steps_in events)) (sym none) (tt {0});
    }

pub side_view : (P : Network) (begin most : ℕ) (old new : State) (side : Event) → IsStore P begin most old → new.trail.items ≡ old.trail.items ++ side ∷ [] → view_of P (length new.trail.items) most new ≡ with_side (view_of P begin most old) side
side_view P begin most old new side is trail =
    let n = length-append old.trail.items (side ∷ []) in
    let fewer : most - length new.trail.items ≡ most - length old.trail.items - 1 = (let m = ap length trail in omega (arith, n, m)) in
    same_standing P
    (ap reverse (take_all (length new.trail.items) new.trail.items (omega arith)) ∙ ap reverse trail ∙ newest old.trail.items side ∙ ap (λ h. side ∷ h) (sym (history_is P begin most old is.steps)))
    (ap steps_in (drop_all (length new.trail.items) new.trail.items (omega arith)))
    fewer

-- what an event needs so that costs are exact behind it
pub exact_project : (s : Standing) (f i a m : ℕ) → IsExactAlong s.network (history s) → FitsProject s f i a m → IsExact s.network (Did (Project f i a m) ∷ history s)
exact_project s f i a m along fits =
    let old = exact_here s.network (history s) along in
    record { small = small_project s.network (history s) f i a m fits.small old.small; no_debts = debts_project s.network (history s) f i a m fits.enough old.no_debts; range = (fits.place, old.range) }

pub exact_extend : (s : Standing) (f i a m : ℕ) → IsExactAlong s.network (history s) → FitsExtend s f i a m → IsExact s.network (Did (Extend f i a m) ∷ history s)
exact_extend s f i a m along fits =
    let old = exact_here s.network (history s) along in
    record { small = small_extend s.network (history s) f i a m fits.small old.small; no_debts = debts_extend s.network (history s) f i a m fits.enough old.no_debts; range = (fits.place, old.range) }

pub exact_lift : (s : Standing) (x m : ℕ) → IsExactAlong s.network (history s) → FitsLift s x m → IsExact s.network (Did (Lift x m) ∷ history s)
exact_lift s x m along fits =
    let old = exact_here s.network (history s) along in
    record { small = small_lift s.network (history s) x m old.small; no_debts = debts_lift s.network (history s) x m fits.enough old.no_debts; range = (fits.variable, old.range) }

pub exact_cut_value : (s : Standing) (x a : ℕ) → IsExactAlong s.network (history s) → IsValue s.network x a → IsExact s.network (Did (CutValue x a) ∷ history s)
exact_cut_value s x a along value =
    let old = exact_here s.network (history s) along in
    record { small = small_still s.network (history s) (Did (CutValue x a)) (λ y b. refl) (λ f tuple. refl) old.small; no_debts = debts_still s.network (history s) (Did (CutValue x a)) (λ y b. refl) (λ f tuple. refl) old.no_debts; range = (value, old.range) }

pub exact_cut_tuple : (s : Standing) (f c : ℕ) → IsExactAlong s.network (history s) → IsCell s.network f c → IsExact s.network (Did (CutTuple f c) ∷ history s)
exact_cut_tuple s f c along cell =
    let old = exact_here s.network (history s) along in
    record { small = small_still s.network (history s) (Did (CutTuple f c)) (λ y b. refl) (λ g tuple. refl) old.small; no_debts = debts_still s.network (history s) (Did (CutTuple f c)) (λ y b. refl) (λ g tuple. refl) old.no_debts; range = (cell, old.range) }

pub exact_took : (s : Standing) (d : Decision) → IsExactAlong s.network (history s) → IsDecision s.network d → IsExact s.network (Took d ∷ history s)
exact_took s d along decision =
    let old = exact_here s.network (history s) along in
    record { small = small_still s.network (history s) (Took d) (λ y b. refl) (λ f tuple. refl) old.small; no_debts = debts_still s.network (history s) (Took d) (λ y b. refl) (λ f tuple. refl) old.no_debts; range = (decision, old.range) }

pub exact_refused : (s : Standing) (d : Decision) → IsExactAlong s.network (history s) → IsDecision s.network d → IsExact s.network (Refused d ∷ history s)
exact_refused s d along decision =
    let old = exact_here s.network (history s) along in
    record { small = small_still s.network (history s) (Refused d) (λ y b. refl) (λ f tuple. refl) old.small; no_debts = debts_still s.network (history s) (Refused d) (λ y b. refl) (λ f tuple. refl) old.no_debts; range = (decision, old.range) }

-- a store with more room
pub more_room : (P : Network) (begin most more : ℕ) (old new : State) → IsStore P begin most old → IsState P new → HasRoom more new → new.trail.items ≡ old.trail.items → most ≤ more → IsStore P begin more new
more_room P begin most more old new is state room trail l = record {
  state = state;
  room = room;
  within = let w = is.within in let t = ap length trail in omega (arith, w, t, l);
  base = let b = is.base in let t = ap length trail in omega (arith, b, t);
  steps = subst (λ events. AllSteps (drop begin events)) (sym trail) is.steps;
  spelled = subst (λ events. AllByRecursion IsSpelledStep (steps_in (drop begin events))) (sym trail) is.spelled;
}

pub same_base : (P : Network) (begin most more : ℕ) (old new : State) → new.trail.items ≡ old.trail.items → (view_of P begin more new).base ≡ (view_of P begin most old).base
same_base P begin most more old new trail = ap (λ events. reverse (take begin events)) trail

pub same_block : (P : Network) (begin most more : ℕ) (old new : State) → new.trail.items ≡ old.trail.items → (view_of P begin more new).block ≡ (view_of P begin most old).block
same_block P begin most more old new trail = ap (λ events. steps_in (drop begin events)) trail

-- what holds of a state's network and events holds of those that the store stands for
pub over : (P : Network) (begin most : ℕ) (s : State) (v : Standing) → IsStore P begin most s → view_of P begin most s ≡ v → (Q : Network → List Event → Type 0) → Q P (history_of s) → Q v.network (history v)
over P begin most s v is view Q q = subst (λ (t : Standing). Q t.network (history t)) view (subst (Q P) (sym (history_is P begin most s is.steps)) q)

-- sets that agree on what is live have the same values
same_below : (h g : List Event) (x a : ℕ) → ((b : ℕ) → is_live h x b ≡ is_live g x b) → live_below h x a ≡ live_below g x a
same_below h g x zero agree = refl
same_below h g x (suc a) agree = ap (λ t. (if t then 1 else 0) + live_below h x a) (agree a) ∙ ap (λ n. (if is_live g x a then 1 else 0) + n) (same_below h g x a agree)

pub same_count : (s t : Sets) (x : ℕ) → s.sizes ≡ t.sizes → ((y b : ℕ) → is_live s.history y b ≡ is_live t.history y b) → live_count s x ≡ live_count t x
same_count s t x sizes agree = same_below s.history t.history x (slice_index s.sizes x) (agree x) ∙ ap (λ l. live_below t.history x (slice_index l x)) sizes

pub same_live : (s t : Sets) (x : ℕ) (values : List ℕ) → s.sizes ≡ t.sizes → ((y b : ℕ) → is_live s.history y b ≡ is_live t.history y b) → AreLive s x values → AreLive t x values
same_live s t x values sizes agree is = record {
  live = λ i l. (let r = is.live i l in (record { variable = subst (λ ss. x < length ss) sizes r.0.variable; value = subst (λ ss. slice_index values i < slice_index ss x) sizes r.0.value }, sym (agree x (slice_index values i)) ∙ r.1));
  all = λ a value live. is.all a (record { variable = subst (λ ss. x < length ss) (sym sizes) value.variable; value = subst (λ ss. a < slice_index ss x) (sym sizes) value.value }) (agree x a ∙ live);
  once = is.once;
  counted = is.counted ∙ same_count s t x sizes agree;
}

-- a state's live sets agree with its events
pub agree_live : (P : Network) (begin most : ℕ) (s : State) (v : Standing) → IsStore P begin most s → view_of P begin most s ≡ v → (y b : ℕ) → is_live s.live.history y b ≡ is_live (history v) y b
agree_live P begin most s v is view y b = over P begin most s v is view (λ N h. is_live s.live.history y b ≡ is_live h y b) (ap (λ h. is_live h y b) is.state.keeps.live ∙ live_by_removals (history_of s) y b)

pub live_sizes : (P : Network) (begin most : ℕ) (s : State) (v : Standing) → IsStore P begin most s → view_of P begin most s ≡ v → s.live.sizes ≡ v.network.sizes
live_sizes P begin most s v is view = over P begin most s v is view (λ N h. s.live.sizes ≡ N.sizes) is.state.keeps.sizes

-- as many steps as events from the base on
as_many : (events : List Event) → AllSteps events → length (steps_in events) ≡ length events
as_many [] all = refl
as_many (Did step ∷ events) all = ap suc (as_many events all)
as_many (Took d ∷ events) all = absurd all
as_many (Refused d ∷ events) all = absurd all

pub block_length : (P : Network) (begin most : ℕ) (s : State) → IsStore P begin most s → length (view_of P begin most s).block ≡ length s.trail.items - begin
block_length P begin most s is = as_many (drop begin s.trail.items) is.steps ∙ length-drop begin s.trail.items

-- an event from the base on is a step that has a spelling
pub step_at : (events : List Event) (i : ℕ) (event : Event) (step : Step) → i < length events → AllByRecursion IsSpelledStep (steps_in events) → get_or events i event ≡ Did step → IsSpelledStep step
step_at [] i event step l all is = absurd (omega (arith, l))
step_at (Did first ∷ events) zero event step l all is = subst IsSpelledStep (step_of is) all.0
  where
    step_of : mathlib.Core.Path.◌≡◌ {A = Event} (Did first) (Did step) → first ≡ step
    step_of e = ap the_step e
      where
        the_step : Event → Step
        the_step (Did one) = one
        the_step (Took d) = first
        the_step (Refused d) = first
step_at (Did first ∷ events) (suc i) event step l all is = step_at events i event step (omega (arith, l)) all.1 is
step_at (Took d ∷ events) zero event step l all is = cc
step_at (Took d ∷ events) (suc i) event step l all is = step_at events i event step (omega (arith, l)) all is
step_at (Refused d ∷ events) zero event step l all is = cc
step_at (Refused d ∷ events) (suc i) event step l all is = step_at events i event step (omega (arith, l)) all is

-- where all events from a place on are steps each of them is the step with its number
did_at : (events : List Event) (i : ℕ) (event : Event) (other : Step) → AllSteps events → i < length events → get_or events i event ≡ Did (get_or (steps_in events) i other)
did_at [] i event other all l = absurd (omega (arith, l))
did_at (Did step ∷ events) zero event other all l = refl
did_at (Did step ∷ events) (suc i) event other all l = did_at events i event other all (omega (arith, l))
did_at (Took d ∷ events) i event other all l = absurd all
did_at (Refused d ∷ events) i event other all l = absurd all

pub did_from : (events : List Event) (place i : ℕ) (event : Event) (other : Step) → AllSteps (drop place events) → place + i < length events → get_or events (place + i) event ≡ Did (get_or (steps_in (drop place events)) i other)
did_from events place i event other all l =
    let rest = length-drop place events in
    sym (get_or-drop place events i event) ∙ did_at (drop place events) i event other all (omega (arith, rest, l))

-- and no side of a split
pub no_side_from : (events : List Event) (place i : ℕ) (event : Event) → AllSteps (drop place events) → place + i < length events → ((d : Decision) × (get_or events (place + i) event ≡ Took d)) ⊎ ((d : Decision) × (get_or events (place + i) event ≡ Refused d)) → ⊥
no_side_from events place i event all l (inl is) = (let did = did_from events place i event (Lift 0 0) all l in let both = sym did ∙ is.1 in absurd cc)
no_side_from events place i event all l (inr is) = (let did = did_from events place i event (Lift 0 0) all l in let both = sym did ∙ is.1 in absurd cc)

pub same_step : (one other : Step) → mathlib.Core.Path.◌≡◌ {A = Event} (Did one) (Did other) → one ≡ other
same_step one other e = ap the_step e
  where
    the_step : Event → Step
    the_step (Did step) = step
    the_step (Took d) = one
    the_step (Refused d) = one

-- a store whose block begins at the end of its events
pub at_end : (P : Network) (most count : ℕ) (s : State) → IsState P s → HasRoom most s → length s.trail.items ≤ most → count ≡ length s.trail.items → IsStore P count most s
at_end P most count s state room l e =
    let none : drop count s.trail.items ≡ [] = drop_all count s.trail.items (omega (arith, e)) in
    record {
      state = state;
      room = room;
      within = l;
      base = omega (arith, e);
      steps = subst AllSteps (sym none) (tt {0});
      spelled = subst (λ events. AllByRecursion IsSpelledStep (steps_in events)) (sym none) (tt {0});
    }

-- a peak that is noted changes nothing that contracts see
pub peak_kept : (P : Network) (begin most x peak : ℕ) (old new : State) → IsStore P begin most old → new.sums ≡ old.sums → new.live ≡ old.live → new.cuts ≡ old.cuts → new.trail ≡ old.trail → new.peaks.items ≡ set old.peaks.items x peak
    → HasPeak P (history_of old) x peak → HasRoom most new → IsStore P begin most new
peak_kept P begin most x peak old new is sums live cuts trail peaks has room =
    let h : history_of old ≡ history_of new = sym (ap (λ t. reverse t.items) trail) in
    record {
      state = record {
        keeps = subst (λ l. Keeps P l new) h (same_kept P (history_of old) old new sums live cuts is.state.keeps);
        exact = subst (IsExactAlong P) h is.state.exact;
        lifts = subst LiftsFit h is.state.lifts;
        peaks = subst (λ l. ArePeaks P l new.peaks.items) h (subst (ArePeaks P (history_of old)) (sym peaks) (peaks_noted P (history_of old) old.peaks.items x peak is.state.peaks has));
      };
      room = room;
      within = subst (λ t. length t.items ≤ most) (sym trail) is.within;
      base = subst (λ t. begin ≤ length t.items) (sym trail) is.base;
      steps = subst (λ t. AllSteps (drop begin t.items)) (sym trail) is.steps;
      spelled = subst (λ t. AllByRecursion IsSpelledStep (steps_in (drop begin t.items))) (sym trail) is.spelled;
    }

-- the peaks of a state are those of what the store stands for
pub peaks_there : (P : Network) (begin most : ℕ) (s : State) (v : Standing) → IsStore P begin most s → view_of P begin most s ≡ v → ArePeaks v.network (history v) s.peaks.items
peaks_there P begin most s v is view =
    subst (λ (w : Standing). ArePeaks w.network (history w) s.peaks.items) view (subst (λ h. ArePeaks P h s.peaks.items) (sym (history_is P begin most s is.steps)) is.state.peaks)

pub peak_in : (P : Network) (begin most x peak : ℕ) (s : State) (v : Standing) → IsStore P begin most s → view_of P begin most s ≡ v → HasPeak v.network (history v) x peak → HasPeak P (history_of s) x peak
peak_in P begin most x peak s v is view has =
    subst (λ h. HasPeak P h x peak) (history_is P begin most s is.steps) (subst (λ (w : Standing). HasPeak w.network (history w) x peak) (sym view) has)

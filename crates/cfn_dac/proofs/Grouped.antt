-- Steps through a pair's function, in groups.
use Rattle.std.proofs.Common.{◌≡◌, ◌⊎◌, ℕ, ◌+◌, ◌<◌, ◌≤◌, Bool, true, false, inl, inr, List, [], ◌∷◌, refl, sym, ap, ◌∙◌, subst, arith}
use Rattle.std.specs.Prelude.{Result, Ok, Err, OnOk, OnErr, IsErrAnd, pos, ◌≤ℤ◌, slice_index, IsTrue}
use Rattle.cfn_model.specs.declared.step.Step.{Step}
use Rattle.cfn_model.specs.declared.step.Step.TheVariants.{Project, Extend, Lift, CutValue, CutTuple}
use Rattle.cfn_model.specs.declared.step.Event.{Event}
use Rattle.cfn_model.specs.declared.step.Event.TheVariants.{Did}
use Rattle.cfn_model.specs.Network.{Network, IsNetwork}
use Rattle.cfn_scan.specs.Exact.{IsExactAlong}
use Rattle.cfn_scan.proofs.CallerLemmas.{tuple_at, exact_now}
use Rattle.cfn_dac.specs.Moves.{IsLiveTuple, Trims, KeepsCheap, SomeFrom, AreWithin}
use Rattle.cfn_dac.proofs.Places.{place_of, second_value, variables_apart}
use Rattle.cfn_model.specs.Sums.{floor, unary, is_live}
use Rattle.cfn_model.specs.Steps.{IsPlace}
use Rattle.cfn_consistency.specs.Consistency.{HasFullSupport}
use Rattle.cfn_consistency.specs.Groups.{IsNew, Closes, IsBegun, Repeats}
use Rattle.cfn_consistency.proofs.CallerLemmas.{pair_kept}
use Rattle.cfn_gain.proofs.CallerLemmas.{history_step, gained_none, leads_weaker, leads_shift, leads_close, opened}
use Rattle.cfn_store.specs.Standing.{Standing, history, with_step}
use Rattle.cfn_gain.specs.declared.limits.Halt.{Halt}
use Rattle.cfn_gain.specs.Calls.{Grows}
use Rattle.cfn_gain.specs.Gains.{Leads, Gained, IsOpen}
use Rattle.cfn_dac.specs.declared.pair.Pair.{Pair}
use Rattle.cfn_dac.specs.Full.{IsPair, AreFullBelow, first_of, second_of}
use Rattle.cfn_dac.specs.Shifts.{SomeLacks, Shifts, AreStill, AreHeld, AreReached, LeadsThrough, IsIn, GoesThrough, GoThrough, IsThrough, IsDirected, SomeReached, Closed}
use Rattle.cfn_dac.specs.Going.{Stalls, IsBefore, AreBefore, GoesOnTo, Fills, Gathers}
use Rattle.cfn_dac.proofs.Shifting.{shifts_trimmed, some_lacks, shifts_none, shifts_then, shifts_projected, shifts_extended, still_projected, still_extended, still_then, held_on, none_full, reached_skip, reached_more, reached_on, full_or_reached, all_full}

-- later numbers
later_one : (pair : Pair) (b n c m : ℕ) (step : Step) → b ≤ c → n ≤ m → IsBefore pair b n step → IsBefore pair c m step
later_one pair b n c m (Project f i a k) le more is = (is.0, is.1, (let h = is.2 in omega (arith, h, more)))
later_one pair b n c m (Extend f i a k) le more is = (is.0, is.1, (let h = is.2 in omega (arith, h, le)))
later_one pair b n c m (Lift x k) le more is = is
later_one pair b n c m (CutValue x a) le more is = is
later_one pair b n c m (CutTuple f a) le more is = is

later_all : (functions : List ℕ) (pair : Pair) (b n c m : ℕ) (steps : List Step) → b ≤ c → n ≤ m → AreBefore functions pair b n steps → AreBefore functions pair c m steps
later_all functions pair b n c m [] le more are = tt
later_all functions pair b n c m (step ∷ steps) le more (inl is, rest) = (inl (later_one pair b n c m step le more is), later_all functions pair b n c m steps le more rest)
later_all functions pair b n c m (step ∷ steps) le more (inr is, rest) = (inr is, later_all functions pair b n c m steps le more rest)

-- a step behind such steps is new
extend_new : (functions : List ℕ) (pair : Pair) (b n m : ℕ) (step : Step) → (IsIn pair.function functions → ⊥) → (IsBefore pair b n step ⊎ GoesThrough functions step) → Repeats (Extend pair.function pair.other b m) step → ⊥
extend_new functions pair b n m (Project f i a k) none is same = absurd same
extend_new functions pair b n m (Extend f i a k) none (inl is) same = absurd (let h = is.2 in let e = same.2 in omega (arith, h, e))
extend_new functions pair b n m (Extend f i a k) none (inr is) same = none (subst (λ g. IsIn g functions) same.0 is)
extend_new functions pair b n m (Lift x k) none is same = absurd same
extend_new functions pair b n m (CutValue x a) none is same = absurd same
extend_new functions pair b n m (CutTuple f a) none is same = absurd same

extend_is_new : (functions : List ℕ) (pair : Pair) (b n m : ℕ) (steps : List Step) → (IsIn pair.function functions → ⊥) → AreBefore functions pair b n steps → IsNew steps (Extend pair.function pair.other b m)
extend_is_new functions pair b n m [] none are = tt
extend_is_new functions pair b n m (step ∷ steps) none are = (extend_new functions pair b n m step none are.0, extend_is_new functions pair b n m steps none are.1)

project_new : (functions : List ℕ) (pair : Pair) (b n m : ℕ) (step : Step) → (IsIn pair.function functions → ⊥) → (IsBefore pair b n step ⊎ GoesThrough functions step) → Repeats (Project pair.function pair.place n m) step → ⊥
project_new functions pair b n m (Project f i a k) none (inl is) same = absurd (let h = is.2 in let e = same.2 in omega (arith, h, e))
project_new functions pair b n m (Project f i a k) none (inr is) same = none (subst (λ g. IsIn g functions) same.0 is)
project_new functions pair b n m (Extend f i a k) none is same = absurd same
project_new functions pair b n m (Lift x k) none is same = absurd same
project_new functions pair b n m (CutValue x a) none is same = absurd same
project_new functions pair b n m (CutTuple f a) none is same = absurd same

project_is_new : (functions : List ℕ) (pair : Pair) (b n m : ℕ) (steps : List Step) → (IsIn pair.function functions → ⊥) → AreBefore functions pair b n steps → IsNew steps (Project pair.function pair.place n m)
project_is_new functions pair b n m [] none are = tt
project_is_new functions pair b n m (step ∷ steps) none are = (project_new functions pair b n m step none are.0, project_is_new functions pair b n m steps none are.1)

-- what steps go through
through_one : (functions : List ℕ) (pair : Pair) (b n : ℕ) (step : Step) → (IsBefore pair b n step ⊎ GoesThrough functions step) → GoesThrough (pair.function ∷ functions) step
through_one functions pair b n (Project f i a k) (inl is) = inl is.0
through_one functions pair b n (Project f i a k) (inr is) = inr is
through_one functions pair b n (Extend f i a k) (inl is) = inl is.0
through_one functions pair b n (Extend f i a k) (inr is) = inr is
through_one functions pair b n (Lift x k) (inl is) = is
through_one functions pair b n (Lift x k) (inr is) = is
through_one functions pair b n (CutValue x a) (inl is) = is
through_one functions pair b n (CutValue x a) (inr is) = is
through_one functions pair b n (CutTuple f a) (inl is) = is
through_one functions pair b n (CutTuple f a) (inr is) = is

through_all : (functions : List ℕ) (pair : Pair) (b n : ℕ) (steps : List Step) → AreBefore functions pair b n steps → GoThrough (pair.function ∷ functions) steps
through_all functions pair b n [] are = tt
through_all functions pair b n (step ∷ steps) are = (through_one functions pair b n step are.0, through_all functions pair b n steps are.1)

before_all : (functions : List ℕ) (pair : Pair) (steps : List Step) → GoThrough functions steps → AreBefore functions pair 0 0 steps
before_all functions pair [] go = tt
before_all functions pair (step ∷ steps) go = (inr go.0, before_all functions pair steps go.1)

-- the group as a call comes to it, and as it leaves it
pub goes_from : (P : Network) (functions : List ℕ) (pair : Pair) (moves : List ℕ) (start now : Standing) → Leads start now (IsThrough functions) → Leads start now (GoesOnTo P false functions pair moves 0 0)
goes_from P functions pair moves start now l = leads_weaker start now (IsThrough functions) (GoesOnTo P false functions pair moves 0 0) l
    (λ g is. record { steps = before_all functions pair g.steps is; start = λ e. absurd cc })

pub goes_to : (P : Network) (asked : Bool) (functions : List ℕ) (pair : Pair) (moves : List ℕ) (b n : ℕ) (start now : Standing) → Leads start now (GoesOnTo P asked functions pair moves b n) → Leads start now (IsThrough (pair.function ∷ functions))
goes_to P asked functions pair moves b n start now l = leads_weaker start now (GoesOnTo P asked functions pair moves b n) (IsThrough (pair.function ∷ functions)) l (λ g is. through_all functions pair b n g.steps is.steps)

pub goes_begun : (P : Network) (asked : Bool) (functions : List ℕ) (pair : Pair) (moves : List ℕ) (b n : ℕ) (start now : Standing) → AreHeld P (history now) pair moves 0 → Gained start now → Leads start now (GoesOnTo P asked functions pair moves b n)
goes_begun P asked functions pair moves b n start now held l = leads_weaker start now IsBegun (GoesOnTo P asked functions pair moves b n) l
    (λ g is. subst (GoesOnTo P asked functions pair moves b n (history now)) (sym is) (record {
      steps = tt;
      start = λ e a place some. none_full P (history now) pair moves 0 a held (omega arith) some;
    }))

pub goes_later : (P : Network) (asked : Bool) (functions : List ℕ) (pair : Pair) (moves : List ℕ) (b n c m : ℕ) (start now : Standing) → b ≤ c → n ≤ m → Leads start now (GoesOnTo P asked functions pair moves b n) → Leads start now (GoesOnTo P asked functions pair moves c m)
goes_later P asked functions pair moves b n c m start now le more l = leads_weaker start now (GoesOnTo P asked functions pair moves b n) (GoesOnTo P asked functions pair moves c m) l
    (λ g is. record { steps = later_all functions pair b n c m g.steps le more is.steps; start = is.start })

-- after cuts
pub goes_trimmed : (P : Network) (asked : Bool) (functions : List ℕ) (pair : Pair) (moves : List ℕ) (b : ℕ) (start now next : Standing) → AreHeld P (history next) pair moves 0 → Leads start now (GoesOnTo P asked functions pair moves b 0) → (Gained start next ⊎ (next ≡ now)) → Leads start next (GoesOnTo P asked functions pair moves b 0)
goes_trimmed P asked functions pair moves b start now next held l (inl gained) = goes_begun P asked functions pair moves b 0 start next held gained
goes_trimmed P asked functions pair moves b start now next held l (inr same) = subst (λ t. Leads start t (GoesOnTo P asked functions pair moves b 0)) (sym same) l

-- after an extend, and after a project
pub goes_extended : (P : Network) (asked : Bool) (functions : List ℕ) (pair : Pair) (moves : List ℕ) (b m : ℕ) (start now next : Standing) → (IsIn pair.function functions → ⊥) → Leads start now (GoesOnTo P asked functions pair moves b 0) → next ≡ with_step now (Extend pair.function pair.other b m) → Leads start next (GoesOnTo P asked functions pair moves (b + 1) 0)
goes_extended P asked functions pair moves b m start now next none l made =
    leads_shift start now next (GoesOnTo P asked functions pair moves b 0) (GoesOnTo P asked functions pair moves (b + 1) 0) (Extend pair.function pair.other b m) l made tt
    (λ g is. (
      extend_is_new functions pair b 0 m g.steps none is.steps,
      record { steps = (inl (refl, refl, omega arith), later_all functions pair b 0 (b + 1) 0 g.steps (omega arith) (omega arith) is.steps); start = is.start },
    ))

pub goes_projected : (P : Network) (asked : Bool) (functions : List ℕ) (pair : Pair) (moves : List ℕ) (b n m : ℕ) (start now next : Standing) → (IsIn pair.function functions → ⊥) → Leads start now (GoesOnTo P asked functions pair moves b n) → next ≡ with_step now (Project pair.function pair.place n m) → Leads start next (GoesOnTo P asked functions pair moves b (n + 1))
goes_projected P asked functions pair moves b n m start now next none l made =
    leads_shift start now next (GoesOnTo P asked functions pair moves b n) (GoesOnTo P asked functions pair moves b (n + 1)) (Project pair.function pair.place n m) l made tt
    (λ g is. (
      project_is_new functions pair b n m g.steps none is.steps,
      record { steps = (inl (refl, refl, omega arith), later_all functions pair b n b (n + 1) g.steps (omega arith) (omega arith) is.steps); start = is.start },
    ))

-- a project by which its value got a full support closes the group
pub full_closes : (P : Network) (pair : Pair) (moves : List ℕ) (b n m : ℕ) (start now next : Standing) → now.network ≡ P → Leads start now (GoesOnTo P true [] pair moves b n) → next ≡ with_step now (Project pair.function pair.place n m)
    → IsDirected P (Did (Project pair.function pair.place n m) ∷ history now) pair → IsPlace P pair.function pair.place n → 0 < slice_index moves n → IsTrue (is_live (history now) (first_of P pair) n)
    → HasFullSupport P (Did (Project pair.function pair.place n m) ∷ history now) pair.function pair.place pair.other n → Gained start next
full_closes P pair moves b n m start now next same l made directed place some live full =
    leads_close start now next (GoesOnTo P true [] pair moves b n) (Project pair.function pair.place n m) l made
    (λ g is. (
      project_is_new [] pair b n m g.steps (λ in_none. in_none) is.steps,
      subst (λ Q. Closes Q g.start (history now) (Project pair.function pair.place n m)) (sym same)
          (inr (record { place = pair.other; pair = directed.0; lower = directed.1; live = live; before = is.start refl n place some; now = full })),
    ))

-- Filling.
pub fills_none : (s : Standing) (k : ℕ) (pair : Pair) (moves : List ℕ) (b : ℕ) → Fills s s k pair moves b b
fills_none s k pair moves b = record {
  shifts = shifts_none s.network pair k (history s);
  still = λ a h. refl;
  goes = λ start asked functions none l. l;
}

pub fills_then : (before mid after : Standing) (k : ℕ) (pair : Pair) (moves : List ℕ) (a b c : ℕ) → mid.network ≡ before.network → Fills before mid k pair moves a b → Fills mid after k pair moves b c → Fills before after k pair moves a c
fills_then before mid after k pair moves a b c same one two = record {
  shifts = shifts_then before.network pair k (history before) (history mid) (history after) one.shifts (subst (λ P. Shifts P pair k (history mid) (history after)) same two.shifts);
  still = still_then before.network pair (history before) (history mid) (history after) 0 one.still (subst (λ P. AreStill P pair (history mid) (history after) 0) same two.still);
  goes = λ start asked functions none l.
      subst (λ P. Leads start mid (GoesOnTo P asked functions pair moves b 0) → Leads start after (GoesOnTo P asked functions pair moves c 0)) same (two.goes start asked functions none) (one.goes start asked functions none l);
}

pub fills_later : (before after : Standing) (k : ℕ) (pair : Pair) (moves : List ℕ) (a b c : ℕ) → b ≤ c → Fills before after k pair moves a b → Fills before after k pair moves a c
fills_later before after k pair moves a b c le one = record {
  shifts = one.shifts;
  still = one.still;
  goes = λ start asked functions none l. goes_later before.network asked functions pair moves b 0 c 0 start after le (omega arith) (one.goes start asked functions none l);
}

pub fills_extended : (s next : Standing) (k : ℕ) (pair : Pair) (moves : List ℕ) (b m : ℕ) → (second_of s.network pair ≡ first_of s.network pair → ⊥) → next ≡ with_step s (Extend pair.function pair.other b m) → Fills s next k pair moves b (b + 1)
fills_extended s next k pair moves b m apart made =
    let e = ap history made ∙ history_step s (Extend pair.function pair.other b m) in
    record {
      shifts = subst (Shifts s.network pair k (history s)) (sym e) (shifts_extended s.network pair k (history s) b m apart);
      still = subst (λ h. AreStill s.network pair (history s) h 0) (sym e) (still_extended s.network (history s) pair b m apart);
      goes = λ start asked functions none l. goes_extended s.network asked functions pair moves b m start s next none l made;
    }

-- Gathering.
pub gathers_none : (s : Standing) (k : ℕ) (pair : Pair) (moves : List ℕ) → Gathers s s k pair moves 0
gathers_none s k pair moves = record {
  shifts = shifts_none s.network pair k (history s);
  still = λ a h. refl;
  reached = λ alpha sum are. are;
  goes = λ start asked functions b none l. l;
  closed = λ alpha sum are directed start b l grows. absurd (omega (arith, grows));
}

pub gathers_skip : (before now : Standing) (k : ℕ) (pair : Pair) (moves : List ℕ) (n : ℕ) → slice_index moves n ≡ 0 → Gathers before now k pair moves n → Gathers before now k pair moves (n + 1)
gathers_skip before now k pair moves n none g = record {
  shifts = g.shifts;
  still = λ a h. g.still a (omega (arith, h));
  reached = λ alpha sum are. reached_skip before.network (history now) pair alpha moves n none (g.reached alpha sum are);
  goes = λ start asked functions b not l. goes_later before.network asked functions pair moves b n b (n + 1) start now (omega arith) (omega arith) (g.goes start asked functions b not l);
  closed = g.closed;
}

pub gathers_more : (before now next : Standing) (k : ℕ) (pair : Pair) (moves : List ℕ) (n : ℕ) → now.network ≡ before.network → next.network ≡ before.network → (second_of before.network pair ≡ first_of before.network pair → ⊥) → IsPlace before.network pair.function pair.place n → 0 < slice_index moves n → IsTrue (is_live (history now) (first_of before.network pair) n)
    → next ≡ with_step now (Project pair.function pair.place n (slice_index moves n)) → Gathers before now k pair moves n → Gathers before next k pair moves (n + 1)
gathers_more before now next k pair moves n same later apart place some live made g = record {
  shifts = subst (Shifts P pair k (history before)) (sym e) (shifts_then P pair k (history before) (history now) (Did step ∷ history now) g.shifts moved);
  still = subst (λ h. AreStill P pair (history before) h (n + 1)) (sym e) (λ a h. still_projected P (history now) pair n m a (λ d. absurd (omega (arith, d, h))) ∙ g.still a (omega (arith, h)));
  reached = λ alpha sum are. subst (λ h. AreReached P h pair alpha moves (n + 1)) (sym e) (reached_here alpha sum are);
  goes = λ start asked functions b not l. goes_projected P asked functions pair moves b n m start now next not (g.goes start asked functions b not l) made;
  closed = λ alpha sum are directed start b l grows.
      by alpha start b (g.goes start true [] b (λ none. none) l)
      (pair_kept P (history before) (Did step ∷ history now) pair.function pair.place pair.other g.shifts.values directed.0, directed.1)
      (full_or_reached P (Did step ∷ history now) pair alpha n ((reached_here alpha sum are).done n place live (omega arith)));
}
  where
    P : Network
    P = before.network

    m : ℕ
    m = slice_index moves n

    step : Step
    step = Project pair.function pair.place n m

    e : history next ≡ Did step ∷ history now
    e = ap history made ∙ history_step now step

    moved : Shifts P pair k (history now) (Did step ∷ history now)
    moved = shifts_projected P pair k (history now) n m apart

    reached_here : (alpha : ℕ) → floor P (history before) + alpha ≤ k → AreReached P (history before) pair alpha moves 0 → AreReached P (Did step ∷ history now) pair alpha moves (n + 1)
    reached_here alpha sum are = reached_more P pair k alpha moves n (history now) (let f = g.shifts.floors in omega (arith, f, sum)) apart (g.reached alpha sum are)

    by : (alpha : ℕ) (start : Standing) (b : ℕ) → Leads start now (GoesOnTo P true [] pair moves b n) → IsDirected P (Did step ∷ history now) pair → (HasFullSupport P (Did step ∷ history now) pair.function pair.place pair.other n ⊎ (pos alpha ≤ℤ unary P (Did step ∷ history now) (first_of P pair) n)) → Closed start next pair alpha
    by alpha start b l directed (inl full) = inl (full_closes P pair moves b n m start now next same l made directed place some live full)
    by alpha start b l directed (inr cost) = inr (
      opened start next (GoesOnTo P true [] pair moves b (n + 1)) (goes_projected P true [] pair moves b n m start now next (λ none. none) l made),
      subst (λ Q. SomeReached Q (history next) pair alpha) (sym later) (subst (λ h. SomeReached P h pair alpha) (sym e) (record { value = n; place = place; live = live; cost = cost })),
    )

-- cuts before an extend
pub low_second : (P : Network) (history : List Event) (pair : Pair) → IsNetwork P → IsExactAlong P history → IsPair P pair → (tuple : List ℕ) → IsLiveTuple P history pair.function tuple → pos 0 ≤ℤ unary P history (second_of P pair) (slice_index tuple pair.other)
low_second P history pair net exact is tuple live =
    let at = tuple_at P history pair.function pair.other tuple is.other live.fits live.live in
    (exact_now P history exact).no_debts.unary (second_of P pair) (slice_index tuple pair.other) (second_value P pair (slice_index tuple pair.other) net (place_of P pair.function pair.other (slice_index tuple pair.other) is.function is.other at.0)) at.1

pub fills_trimmed : (s t : Standing) (k : ℕ) (pair : Pair) (moves : List ℕ) (b : ℕ) → IsNetwork s.network → IsExactAlong s.network (history s) → IsPair s.network pair → AreHeld s.network (history s) pair moves 0
    → Trims s.network (history s) (history t) → KeepsCheap s.network (history s) (history t) k pair.function → ((start : Standing) → IsOpen start s → Gained start t ⊎ (t ≡ s)) → Fills s t k pair moves b b
fills_trimmed s t k pair moves b net exact is held trims keeps gains = record {
  shifts = shifts;
  still = still;
  goes = λ start asked functions none l.
      goes_trimmed s.network asked functions pair moves b start s t (held_on s.network pair k 0 0 moves (history s) (history t) (omega arith) shifts still held) l (gains start (opened start s (GoesOnTo s.network asked functions pair moves b 0) l));
}
  where
    shifts : Shifts s.network pair k (history s) (history t)
    shifts = shifts_trimmed s.network pair k (history s) (history t) trims keeps (low_second s.network (history s) pair net exact is)

    still : AreStill s.network pair (history s) (history t) 0
    still a h = trims.unary (first_of s.network pair) a

pub fills_given : (s t next : Standing) (k : ℕ) (pair : Pair) (moves : List ℕ) (b m : ℕ) → IsNetwork s.network → IsPair s.network pair → t.network ≡ s.network → Fills s t k pair moves b b → next ≡ with_step t (Extend pair.function pair.other b m) → Fills s next k pair moves b (b + 1)
fills_given s t next k pair moves b m net is same one made =
    fills_then s t next k pair moves b b (b + 1) same one (fills_extended t next k pair moves b m (subst (λ P. second_of P pair ≡ first_of P pair → ⊥) (sym same) (variables_apart s.network pair net is)) made)

pub held_filled : (before now : Standing) (k : ℕ) (pair : Pair) (moves : List ℕ) (b c : ℕ) → now.network ≡ before.network → Fills before now k pair moves b c → AreHeld before.network (history before) pair moves 0 → AreHeld now.network (history now) pair moves 0
held_filled before now k pair moves b c same one held =
    subst (λ P. AreHeld P (history now) pair moves 0) (sym same) (held_on before.network pair k 0 0 moves (history before) (history now) (omega arith) one.shifts one.still held)

-- a value that is to get something lacks a full support
pub stalls_at : (before now next : Standing) (k most : ℕ) (pair : Pair) (moves : List ℕ) (n : ℕ) → now.network ≡ before.network → next ≡ now → AreHeld before.network (history before) pair moves 0 → IsPlace before.network pair.function pair.place n → 0 < slice_index moves n
    → AreWithin now.network (history now) pair most moves n → Gathers before now k pair moves n → Stalls before next k pair moves
stalls_at before now next k most pair moves n same is held place some within g = subst (λ t. Stalls before t k pair moves) (sym is) (record {
  until = n;
  gathers = g;
  lacks = some_lacks before.network (history now) pair moves n n (held_on before.network pair k 0 n moves (history before) (history now) (omega arith) g.shifts g.still held) place (omega arith) some
      (subst (λ P. IsTrue (is_live (history now) (first_of P pair) n)) same (within n (subst (λ P. IsPlace P pair.function pair.place n) (sym same) place) (omega arith) some).live);
})

pub filled_lacks : (before now : Standing) (k most : ℕ) (pair : Pair) (moves : List ℕ) (b c : ℕ) → Fills before now k pair moves b c → AreHeld before.network (history before) pair moves 0 → AreWithin before.network (history before) pair most moves 0 → SomeFrom before.network pair moves 0 → SomeLacks before.network (history now) pair
filled_lacks before now k most pair moves b c one held within some =
    some_lacks before.network (history now) pair moves 0 some.0 (held_on before.network pair k 0 0 moves (history before) (history now) (omega arith) one.shifts one.still held) some.1 (omega arith) some.3
    (one.shifts.values (first_of before.network pair) some.0 ∙ (within some.0 some.1 (omega arith) some.3).live)

-- an extend that is made, or refused
pub fills_extend : (s t next : Standing) (k : ℕ) (pair : Pair) (moves : List ℕ) (b m : ℕ) (result : Result (Unit {0}) Halt) → IsNetwork s.network → IsPair s.network pair → t.network ≡ s.network → Fills s t k pair moves b b
    → OnOk result (next ≡ with_step t (Extend pair.function pair.other b m)) → OnErr result (next ≡ t) → Fills s next k pair moves b (b + 1)
fills_extend s t next k pair moves b m (Ok done) net is same one made stopped = fills_given s t next k pair moves b m net is same one made
fills_extend s t next k pair moves b m (Err halt) net is same one made stopped = subst (λ u. Fills s u k pair moves b (b + 1)) (sym stopped) (fills_later s t k pair moves b b (b + 1) (omega arith) one)

pub on_err : {A : Type 0} (result : Result (Unit {0}) Halt) (halt : Halt) → IsErrAnd result (λ h. h ≡ halt) → A → OnErr result A
on_err (Ok done) halt is fact = absurd is
on_err (Err h) halt is fact = fact

-- Both, one behind the other.
moved_end : (s t u : Standing) (k : ℕ) (pair : Pair) (moves : List ℕ) (b n : ℕ) → t.network ≡ s.network → Fills s t k pair moves 0 b → Gathers t u k pair moves n → Shifts s.network pair k (history s) (history u)
moved_end s t u k pair moves b n same one two = shifts_then s.network pair k (history s) (history t) (history u) one.shifts (subst (λ P. Shifts P pair k (history t) (history u)) same two.shifts)

pub moved_shifts : (s t u : Standing) (k : ℕ) (pair : Pair) (moves : List ℕ) (b n : ℕ) (result : Result (Unit {0}) Halt) → t.network ≡ s.network → Fills s t k pair moves 0 b → OnOk result (Gathers t u k pair moves n) → OnErr result (Stalls t u k pair moves) → Shifts s.network pair k (history s) (history u)
moved_shifts s t u k pair moves b n (Ok done) same one two stalls = moved_end s t u k pair moves b n same one two
moved_shifts s t u k pair moves b n (Err halt) same one two stalls = moved_end s t u k pair moves b stalls.until same one stalls.gathers

through_end : (s t u : Standing) (k : ℕ) (pair : Pair) (moves : List ℕ) (b n : ℕ) → t.network ≡ s.network → Fills s t k pair moves 0 b → Gathers t u k pair moves n → LeadsThrough s u pair
through_end s t u k pair moves b n same one two start functions none l =
    goes_to t.network false functions pair moves b n start u
    (two.goes start false functions b none
    (subst (λ P. Leads start t (GoesOnTo P false functions pair moves b 0)) (sym same) (one.goes start false functions none (goes_from s.network functions pair moves start s l))))

pub moved_through : (s t u : Standing) (k : ℕ) (pair : Pair) (moves : List ℕ) (b n : ℕ) (result : Result (Unit {0}) Halt) → t.network ≡ s.network → Fills s t k pair moves 0 b → OnOk result (Gathers t u k pair moves n) → OnErr result (Stalls t u k pair moves) → LeadsThrough s u pair
moved_through s t u k pair moves b n (Ok done) same one two stalls = through_end s t u k pair moves b n same one two
moved_through s t u k pair moves b n (Err halt) same one two stalls = through_end s t u k pair moves b stalls.until same one stalls.gathers

pub filled_through : (s t : Standing) (k : ℕ) (pair : Pair) (moves : List ℕ) (b : ℕ) → Fills s t k pair moves 0 b → LeadsThrough s t pair
filled_through s t k pair moves b one start functions none l = goes_to s.network false functions pair moves b 0 start t (one.goes start false functions none (goes_from s.network functions pair moves start s l))

pub nothing_through : (s : Standing) (pair : Pair) → LeadsThrough s s pair
nothing_through s pair start functions none l = leads_weaker start s (IsThrough functions) (IsThrough (pair.function ∷ functions)) l (λ g is. more functions g.steps is)
  where
    more_one : (functions : List ℕ) (step : Step) → GoesThrough functions step → GoesThrough (pair.function ∷ functions) step
    more_one functions (Project f i a k) is = inr is
    more_one functions (Extend f i a k) is = inr is
    more_one functions (Lift x k) is = is
    more_one functions (CutValue x a) is = is
    more_one functions (CutTuple f a) is = is

    more : (functions : List ℕ) (steps : List Step) → GoThrough functions steps → GoThrough (pair.function ∷ functions) steps
    more functions [] is = tt
    more functions (step ∷ steps) is = (more_one functions step is.0, more functions steps is.1)

reached_here : (s t : Standing) (k alpha : ℕ) (pair : Pair) (moves : List ℕ) (b : ℕ) → t.network ≡ s.network → floor s.network (history s) + alpha ≤ k → AreReached s.network (history s) pair alpha moves 0 → Fills s t k pair moves 0 b → AreReached t.network (history t) pair alpha moves 0
reached_here s t k alpha pair moves b same sum are one =
    subst (λ P. AreReached P (history t) pair alpha moves 0) (sym same) (reached_on s.network pair k alpha moves (history s) (history t) sum one.shifts one.still are)

sum_here : (s t : Standing) (k alpha : ℕ) (pair : Pair) (moves : List ℕ) (b : ℕ) → t.network ≡ s.network → floor s.network (history s) + alpha ≤ k → Fills s t k pair moves 0 b → floor t.network (history t) + alpha ≤ k
sum_here s t k alpha pair moves b same sum one = subst (λ P. floor P (history t) + alpha ≤ k) (sym same) (let f = one.shifts.floors in omega (arith, f, sum))

pub moved_closed : (s t u : Standing) (k alpha : ℕ) (pair : Pair) (moves : List ℕ) (b n : ℕ) (result : Result (Unit {0}) Halt) → t.network ≡ s.network → floor s.network (history s) + alpha ≤ k → AreHeld s.network (history s) pair moves 0 → AreReached s.network (history s) pair alpha moves 0
    → Fills s t k pair moves 0 b → OnOk result (Gathers t u k pair moves n) → OnOk result (Grows t u) → OnOk result (IsDirected s.network (history s) pair → Closed s u pair alpha)
moved_closed s t u k alpha pair moves b n (Err halt) same sum held are one two grows = tt
moved_closed s t u k alpha pair moves b n (Ok done) same sum held are one two grows = λ directed.
    two.closed alpha (sum_here s t k alpha pair moves b same sum one) (reached_here s t k alpha pair moves b same sum are one)
    (subst (λ P. IsDirected P (history t) pair) (sym same) (pair_kept s.network (history s) (history t) pair.function pair.place pair.other one.shifts.values directed.0, directed.1))
    s b
    (subst (λ P. Leads s t (GoesOnTo P true [] pair moves b 0)) (sym same) (one.goes s true [] (λ none. none) (goes_begun s.network true [] pair moves 0 0 s s held (gained_none s))))
    grows

pub moved_full : (s t u : Standing) (k alpha : ℕ) (pair : Pair) (moves : List ℕ) (b n : ℕ) (result : Result (Unit {0}) Halt) → t.network ≡ s.network → ((a : ℕ) → IsPlace s.network pair.function pair.place a → a < n) → floor s.network (history s) + alpha ≤ k → AreReached s.network (history s) pair alpha moves 0
    → Fills s t k pair moves 0 b → OnOk result (Gathers t u k pair moves n) → OnOk result (AreFullBelow s.network (history u) pair alpha)
moved_full s t u k alpha pair moves b n (Err halt) same all sum are one two = tt
moved_full s t u k alpha pair moves b n (Ok done) same all sum are one two =
    all_full s.network (history u) pair alpha moves n all
    (subst (λ P. AreReached P (history u) pair alpha moves n) same (two.reached alpha (sum_here s t k alpha pair moves b same sum one) (reached_here s t k alpha pair moves b same sum are one)))

pub moved_lacks : (s t u : Standing) (k : ℕ) (pair : Pair) (moves : List ℕ) (result : Result (Unit {0}) Halt) → t.network ≡ s.network → OnErr result (Stalls t u k pair moves) → OnErr result (SomeLacks s.network (history u) pair)
moved_lacks s t u k pair moves (Ok done) same stalls = tt
moved_lacks s t u k pair moves (Err halt) same stalls = subst (λ P. SomeLacks P (history u) pair) same stalls.lacks

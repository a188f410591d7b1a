-- Steps of a plan are made one after another.
use Rattle.std.proofs.Common.{◌≡◌, ℕ, ◌*◌, ◌-◌, ◌<◌, ◌≤◌, List, [], ◌∷◌, ◌++◌, length, length-append, append_assoc, map, reverse, refl, sym, ap, ◌∙◌, subst, arith}
use Rattle.std.proofs.lemmas.Int.{ints}
use Rattle.std.proofs.lemmas.List.{reverse-append, map-append, append-nil, length-reverse}
use Rattle.std.proofs.Math.Nat.{mul-lt-mul_of_pos_left, mul-zero}
use Rattle.std.specs.Prelude.{Result, Ok, Err, IsErrAnd, IfErr}
use Rattle.cfn_model.specs.declared.step.Step.{Step}
use Rattle.cfn_model.specs.declared.step.Step.TheVariants.{Project, Extend, Lift, CutValue, CutTuple}
use Rattle.cfn_model.specs.declared.step.Event.{Event}
use Rattle.cfn_model.specs.declared.step.Event.TheVariants.{Did}
use Rattle.cfn_model.specs.Network.{Network}
use Rattle.cfn_model.specs.Steps.{after}
use Rattle.cfn_consistency.specs.Virtual.{scaled}
use Rattle.cfn_store.specs.Marking.{IsBehind, back_at}
use Rattle.cfn_gain.proofs.CallerLemmas.{after_append}
use Rattle.cfn_store.specs.Standing.{Standing, history, with_step, FitsProject, FitsExtend, FitsLift}
use Rattle.cfn_store.specs.Rooms.{IsProjectRoom, IsExtendRoom, IsLiftRoom}
use Rattle.cfn_vac.specs.declared.run.Refusal.{Refusal}
use Rattle.cfn_vac.specs.Running.{amount_of, IsShift, AreShifts, CanMake, CanMakeAll, IsRoom, with_steps, HasGrown, IsRefusal}

some_times : (factor m : ℕ) → 0 < factor → 0 < m → 0 < factor * m
some_times factor m h l = subst (λ n. n < factor * m) (mul-zero factor) (mul-lt-mul_of_pos_left l h)

project_can : (s : Standing) (f i a m factor room : ℕ) → IsShift s.network (Project f i a m) → IsProjectRoom s f i a room → 0 < factor → factor * m ≤ room → FitsProject s f i a (factor * m)
project_can s f i a m factor room shift is some within = record {
  place = shift.range;
  some = some_times factor m some shift.some;
  spelled = (let most = is.spelled in omega (arith, within, most));
  enough = λ tuple fits at live. (let e = is.enough tuple fits at live in omega (arith, ints, e, within));
  small = λ live. (let e = is.small live in omega (arith, ints, e, within));
}

extend_can : (s : Standing) (f i a m factor room : ℕ) → IsShift s.network (Extend f i a m) → IsExtendRoom s f i a room → 0 < factor → factor * m ≤ room → FitsExtend s f i a (factor * m)
extend_can s f i a m factor room shift is some within = record {
  place = shift.range;
  some = some_times factor m some shift.some;
  spelled = (let most = is.spelled in omega (arith, within, most));
  enough = λ live. (let e = is.enough live in omega (arith, ints, e, within));
  small = λ tuple fits at live. (let e = is.small tuple fits at live in omega (arith, ints, e, within));
}

lift_can : (s : Standing) (x m factor room : ℕ) → IsShift s.network (Lift x m) → IsLiftRoom s x room → 0 < factor → factor * m ≤ room → FitsLift s x (factor * m)
lift_can s x m factor room shift is some within = record {
  variable = shift.range;
  some = some_times factor m some shift.some;
  spelled = (let most = is.spelled in omega (arith, within, most));
  enough = λ a value live. (let e = is.enough a value live in omega (arith, ints, e, within));
}

-- a shift within the room can be made
pub can_make : (s : Standing) (step : Step) (factor room : ℕ) → IsShift s.network step → IsRoom s step room → 0 < factor → factor * amount_of step ≤ room → CanMake s (scaled factor step)
can_make s (Project f i a m) factor room shift is some within = project_can s f i a m factor room shift is some within
can_make s (Extend f i a m) factor room shift is some within = extend_can s f i a m factor room shift is some within
can_make s (Lift x m) factor room shift is some within = lift_can s x m factor room shift is some within
can_make s (CutValue x a) factor room shift is some within = absurd is
can_make s (CutTuple f c) factor room shift is some within = absurd is

-- a store with steps more, one after another
pub with_none : (s : Standing) → with_steps s [] ≡ s
with_none s = ap (λ b. record { network = s.network; base = s.base; block = b; spare = s.spare - 0 }) (append-nil s.block) ∙ ap (λ n. record { network = s.network; base = s.base; block = s.block; spare = n }) (omega arith)

pub with_first : (s : Standing) (step : Step) (steps : List Step) → with_steps s (step ∷ steps) ≡ with_steps (with_step s step) steps
with_first s step steps =
    ap (λ b. record { network = s.network; base = s.base; block = b; spare = s.spare - length (step ∷ steps) }) (sym (append_assoc s.block (step ∷ []) steps))
    ∙ ap (λ n. record { network = s.network; base = s.base; block = (s.block ++ step ∷ []) ++ steps; spare = n }) (omega arith)

pub with_last : (s : Standing) (steps : List Step) (step : Step) → with_step (with_steps s steps) step ≡ with_steps s (steps ++ step ∷ [])
with_last s steps step =
    let long = length-append steps (step ∷ []) in
    ap (λ b. record { network = s.network; base = s.base; block = b; spare = s.spare - length steps - 1 }) (append_assoc s.block steps (step ∷ []))
    ∙ ap (λ n. record { network = s.network; base = s.base; block = s.block ++ (steps ++ step ∷ []); spare = n }) (omega (arith, long))

pub can_make_last : (s : Standing) (steps : List Step) (step : Step) → CanMakeAll s steps → CanMake (with_steps s steps) step → CanMakeAll s (steps ++ step ∷ [])
can_make_last s [] step all can = (subst (λ t. CanMake t step) (with_none s) can, tt)
can_make_last s (first ∷ steps) step all can = (all.0, can_make_last (with_step s first) steps step all.1 (subst (λ t. CanMake t step) (with_first s first steps) can))

pub shifts_more : (P : Network) (steps : List Step) (step : Step) → AreShifts P steps → IsShift P step → AreShifts P (steps ++ step ∷ [])
shifts_more P [] step all is = (is, tt)
shifts_more P (first ∷ steps) step all is = (all.0, shifts_more P steps step all.1 is)

pub shifts_front : (P : Network) (steps : List Step) (step : Step) → AreShifts P (steps ++ step ∷ []) → AreShifts P steps
shifts_front P [] step all = tt
shifts_front P (first ∷ steps) step all = (all.0, shifts_front P steps step all.1)

pub shifts_last : (P : Network) (steps : List Step) (step : Step) → AreShifts P (steps ++ step ∷ []) → IsShift P step
shifts_last P [] step all = all.0
shifts_last P (first ∷ steps) step all = shifts_last P steps step all.1

-- back from where a store has grown to
behind : (steps : List Step) (before : List Event) → (later : List Event) × (after steps before ≡ later ++ before) × (length later ≡ length steps)
behind [] before = ([], refl, refl)
behind (step ∷ steps) before =
    let r = behind steps (Did step ∷ before) in let long = length-append r.0 (Did step ∷ []) in let n = r.2 in
    (r.0 ++ Did step ∷ [], r.1 ∙ sym (append_assoc r.0 (Did step ∷ []) before), omega (arith, long, n))

pub history_grown : (s : Standing) (steps : List Step) → history (with_steps s steps) ≡ after steps (history s)
history_grown s steps = after_append s.block steps s.base

pub grown_none : (s : Standing) → HasGrown s s
grown_none s = record { steps = []; now_is = sym (with_none s); room = omega arith }

pub grown_more : (before now next : Standing) (step : Step) → HasGrown before now → 0 < now.spare → next ≡ with_step now step → HasGrown before next
grown_more before now next step g some is =
    let long = length-append g.steps (step ∷ []) in let room = g.room in let left = ap (λ (t : Standing). t.spare) g.now_is in
    record {
      steps = g.steps ++ step ∷ [];
      now_is = is ∙ ap (λ t. with_step t step) g.now_is ∙ with_last before g.steps step;
      room = omega (arith, long, room, left, some);
    }

pub grown_behind : (before now : Standing) → HasGrown before now → IsBehind before now
grown_behind before now g =
    let r = behind g.steps (history before) in
    subst (IsBehind before) (sym g.now_is) (record { network = refl; later = r.0; path = history_grown before g.steps ∙ r.1 })

pub grown_back : (before now : Standing) → HasGrown before now → back_at before now ≡ before
grown_back before now g =
    let r = behind g.steps (history before) in
    let long = ap length (ap history g.now_is ∙ history_grown before g.steps ∙ r.1) ∙ length-append r.0 (history before) in
    let n = r.2 in let room = g.room in let left = ap (λ (t : Standing). t.spare) g.now_is in
    ap (λ P. record { network = P; base = before.base; block = before.block; spare = (back_at before now).spare }) (ap (λ (t : Standing). t.network) g.now_is)
    ∙ ap (λ m. record { network = before.network; base = before.base; block = before.block; spare = m }) (omega (arith, long, n, room, left))

-- where making the steps of a plan is
pub record IsMaking (before now : Standing) (factor : ℕ) (steps left : List Step) : Type 0 where
  pub done : List Step
  pub plan_is : reverse steps ≡ done ++ reverse left
  pub made : CanMakeAll before (map (scaled factor) done)
  pub now_is : now ≡ with_steps before (map (scaled factor) done)
  pub shifts : AreShifts before.network left
  pub room : length left ≤ now.spare
  pub grown : HasGrown before now

pub making_start : (s : Standing) (factor : ℕ) (steps : List Step) → AreShifts s.network steps → length steps ≤ s.spare → IsMaking s s factor steps steps
making_start s factor steps shifts room = record { done = []; plan_is = refl; made = tt; now_is = sym (with_none s); shifts = shifts; room = room; grown = grown_none s }

pub next_shift : (before now : Standing) (factor : ℕ) (steps left rest : List Step) (step : Step) → IsMaking before now factor steps left → left ≡ rest ++ step ∷ [] → IsShift now.network step
next_shift before now factor steps left rest step m is =
    subst (λ (t : Standing). IsShift t.network step) (sym m.now_is) (shifts_last before.network rest step (subst (AreShifts before.network) is m.shifts))

pub next_room : (before now : Standing) (factor : ℕ) (steps left rest : List Step) (step : Step) → IsMaking before now factor steps left → left ≡ rest ++ step ∷ [] → 0 < now.spare
next_room before now factor steps left rest step m is = let room = m.room in let long = ap length is ∙ length-append rest (step ∷ []) in omega (arith, room, long)

pub making_more : (before now next : Standing) (factor : ℕ) (steps left rest : List Step) (step : Step) → IsMaking before now factor steps left → left ≡ rest ++ step ∷ [] → CanMake now (scaled factor step) → next ≡ with_step now (scaled factor step) → IsMaking before next factor steps rest
making_more before now next factor steps left rest step m is can next_is = record {
  done = m.done ++ step ∷ [];
  plan_is = m.plan_is ∙ ap (λ l. m.done ++ l) (ap reverse is ∙ reverse-append rest (step ∷ [])) ∙ sym (append_assoc m.done (step ∷ []) (reverse rest));
  made = subst (CanMakeAll before) (sym (map-append (scaled factor) m.done (step ∷ [])))
      (can_make_last before (map (scaled factor) m.done) (scaled factor step) m.made (subst (λ t. CanMake t (scaled factor step)) m.now_is can));
  now_is = next_is ∙ ap (λ t. with_step t (scaled factor step)) m.now_is ∙ with_last before (map (scaled factor) m.done) (scaled factor step) ∙ ap (with_steps before) (sym (map-append (scaled factor) m.done (step ∷ [])));
  shifts = shifts_front before.network rest step (subst (AreShifts before.network) is m.shifts);
  room = (let room = m.room in let long = ap length is ∙ length-append rest (step ∷ []) in let less = ap (λ (t : Standing). t.spare) next_is in omega (arith, room, long, less));
  grown = grown_more before now next (scaled factor step) m.grown (next_room before now factor steps left rest step m is) next_is;
}

pub all_made : (before now : Standing) (factor : ℕ) (steps left : List Step) → IsMaking before now factor steps left → left ≡ [] → CanMakeAll before (map (scaled factor) (reverse steps)) × (now ≡ with_steps before (map (scaled factor) (reverse steps)))
all_made before now factor steps left m none =
    let e = m.plan_is ∙ ap (λ l. m.done ++ reverse l) none ∙ append-nil m.done in
    (subst (λ l. CanMakeAll before (map (scaled factor) l)) (sym e) m.made, m.now_is ∙ ap (λ l. with_steps before (map (scaled factor) l)) (sym e))

pub refused_at : (before now : Standing) (factor : ℕ) (steps left rest : List Step) (step : Step) (refusal : Refusal) (result : Result (Unit {0}) Refusal) → IsMaking before now factor steps left → left ≡ rest ++ step ∷ [] → refusal.number ≡ length steps - length left → refusal.step ≡ step → IsRoom now step refusal.capacity → refusal.capacity < factor * amount_of step → IsErrAnd result (λ r. r ≡ refusal) → IfErr result (IsRefusal before factor (reverse steps))
refused_at before now factor steps left rest step refusal (Ok done) m is at same room short err = tt
refused_at before now factor steps left rest step refusal (Err other) m is at same room short err =
    subst (IsRefusal before factor (reverse steps)) (sym err)
    (record {
      before = m.done;
      later = reverse rest;
      plan_is = m.plan_is ∙ ap (λ l. m.done ++ l) (ap reverse is ∙ reverse-append rest (step ∷ []) ∙ ap (λ t. t ∷ reverse rest) (sym same));
      number = (let whole = ap length m.plan_is ∙ length-append m.done (reverse left) in let one = length-reverse steps in let two = length-reverse left in omega (arith, at, whole, one, two));
      shift = subst (IsShift before.network) (sym same) (shifts_last before.network rest step (subst (AreShifts before.network) is m.shifts));
      made = m.made;
      room = subst (λ t. IsRoom t refusal.step refusal.capacity) m.now_is (subst (λ t. IsRoom now t refusal.capacity) (sym same) room);
      short = subst (λ t. refusal.capacity < factor * amount_of t) (sym same) short;
    })

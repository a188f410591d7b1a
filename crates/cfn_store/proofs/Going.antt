-- Going back along a path.
use Rattle.std.proofs.Common.{◌≡◌, ℕ, ◌+◌, ◌-◌, ◌<◌, ◌≤◌, List, [], ◌∷◌, ◌++◌, length, reverse, take, drop, sym, ap, subst, ◌∙◌, arith}
use Rattle.std.proofs.lemmas.List.{append-nil, length-take-le, append_assoc, reverse-append, reverse-reverse, length-append, length-reverse, take_at, drop_at}
use Rattle.std.specs.List.{AllByRecursion}
use Rattle.cfn_model.specs.declared.step.Event.{Event}
use Rattle.cfn_model.specs.Network.{Network}
use Rattle.cfn_model.specs.Text.{IsSpelledStep}
use Rattle.cfn_store.specs.declared.state.State.{State}
use Rattle.cfn_store.specs.Events.{steps_in, AllSteps}
use Rattle.cfn_store.specs.State.{IsState, HasRoom, history_of}
use Rattle.cfn_store.specs.Standing.{Standing, history}
use Rattle.cfn_store.specs.Marking.{IsMark, IsBehind, back_at}
use Rattle.cfn_store.specs.Kept.{IsStore}
use Rattle.cfn_store.proofs.Along.{as_events, after_is, steps_of_events, all_of_events}
use Rattle.cfn_store.proofs.Stores.{view_of, history_is, same_standing}

-- a state on the way back to its first events
pub record GoesBack (P : Network) (events : ℕ) (old s : State) : Type 0 where
  pub state : IsState P s
  pub room : (most : ℕ) → HasRoom most old → HasRoom most s
  pub enough : events ≤ length s.trail.items
  pub later : List Event
  pub trail : old.trail.items ≡ s.trail.items ++ later

pub stays : (P : Network) (events : ℕ) (s : State) → IsState P s → events ≤ length s.trail.items → GoesBack P events s s
stays P events s is l = record { state = is; room = λ most has. has; enough = l; later = []; trail = sym (append-nil s.trail.items) }

pub one_back : (P : Network) (events : ℕ) (old s new : State) (event : Event) → GoesBack P events old s → events < length s.trail.items → IsState P new → ((most : ℕ) → HasRoom most s → HasRoom most new) → s.trail.items ≡ new.trail.items ++ event ∷ [] → GoesBack P events old new
one_back P events old s new event is l state room trail = record {
  state = state;
  room = λ most has. room most (is.room most has);
  enough = let n = length-append new.trail.items (event ∷ []) in let m = ap length trail in omega (arith, n, m, l);
  later = event ∷ is.later;
  trail = is.trail ∙ ap (λ t. t ++ is.later) trail ∙ append_assoc new.trail.items (event ∷ []) is.later;
}

pub is_back : (P : Network) (events : ℕ) (old s : State) → GoesBack P events old s → length s.trail.items ≤ events → s.trail.items ≡ take events old.trail.items
is_back P events old s is l =
    let e : length s.trail.items ≡ events = (let k = is.enough in omega (arith, k, l)) in
    sym (ap (take events) is.trail ∙ take_at s.trail.items is.later events e)

-- the events before a mark, the oldest first
front : (P : Network) (begin most : ℕ) (old : State) (v m : Standing) → IsStore P begin most old → view_of P begin most old ≡ v → IsBehind m v → take (length (history m)) old.trail.items ≡ reverse (history m)
front P begin most old v m is view behind =
    let whole : history_of old ≡ behind.later ++ history m = sym (history_is P begin most old is.steps) ∙ ap history view ∙ behind.path in
    let turned : old.trail.items ≡ reverse (history m) ++ reverse behind.later = sym (reverse-reverse old.trail.items) ∙ ap reverse whole ∙ reverse-append behind.later (history m) in
    ap (take (length (history m))) turned ∙ take_at (reverse (history m)) (reverse behind.later) (length (history m)) (length-reverse (history m))

split : (m : Standing) → reverse (history m) ≡ reverse m.base ++ as_events m.block
split m = ap reverse (after_is m.block m.base) ∙ reverse-append (reverse (as_events m.block)) m.base ∙ ap (λ l. reverse m.base ++ l) (reverse-reverse (as_events m.block))

back_trail : (P : Network) (begin most events place : ℕ) (old new : State) (v m : Standing) → IsStore P begin most old → view_of P begin most old ≡ v → IsBehind m v → IsMark events place m → new.trail.items ≡ take events old.trail.items → new.trail.items ≡ reverse m.base ++ as_events m.block
back_trail P begin most events place old new v m is view behind mark trail = trail ∙ ap (λ n. take n old.trail.items) mark.all ∙ front P begin most old v m is view behind ∙ split m

back_base : (place : ℕ) (m : Standing) (items : List Event) → place ≡ length m.base → items ≡ reverse m.base ++ as_events m.block → take place items ≡ reverse m.base
back_base place m items begin is = ap (take place) is ∙ take_at (reverse m.base) (as_events m.block) place (length-reverse m.base ∙ sym begin)

back_block : (place : ℕ) (m : Standing) (items : List Event) → place ≡ length m.base → items ≡ reverse m.base ++ as_events m.block → drop place items ≡ as_events m.block
back_block place m items begin is = ap (drop place) is ∙ drop_at (reverse m.base) (as_events m.block) place (length-reverse m.base ∙ sym begin)

pub fewer : (P : Network) (begin most : ℕ) (old : State) (v m : Standing) → IsStore P begin most old → view_of P begin most old ≡ v → IsBehind m v → length (history m) ≤ length old.trail.items
fewer P begin most old v m is view behind =
    let whole : history_of old ≡ behind.later ++ history m = sym (history_is P begin most old is.steps) ∙ ap history view ∙ behind.path in
    let n = ap length whole in let l = length-append behind.later (history m) in let r = length-reverse old.trail.items in omega (arith, n, l, r)

-- a store that is back at a mark is one, and stands for what the mark does
pub back_kept : (P : Network) (begin most events place : ℕ) (old new : State) (v m : Standing) → IsStore P begin most old → view_of P begin most old ≡ v → IsBehind m v → IsMark events place m → IsState P new → HasRoom most new → new.trail.items ≡ take events old.trail.items → IsStore P place most new
back_kept P begin most events place old new v m is view behind mark state room trail =
    let items = back_trail P begin most events place old new v m is view behind mark trail in
    let block = back_block place m new.trail.items mark.before items in
    let f = fewer P begin most old v m is view behind in
    let n = ap length items in let a = length-append (reverse m.base) (as_events m.block) in let r = length-reverse m.base in
    let t = ap length (trail ∙ ap (λ k. take k old.trail.items) mark.all ∙ front P begin most old v m is view behind) in let h = length-reverse (history m) in
    record {
      state = state;
      room = room;
      within = let w = is.within in omega (arith, t, h, f, w);
      base = let b = mark.before in omega (arith, n, a, r, b);
      steps = subst AllSteps (sym block) (all_of_events m.block);
      spelled = subst (λ events. AllByRecursion IsSpelledStep (steps_in events)) (sym block) (subst (AllByRecursion IsSpelledStep) (sym (steps_of_events m.block)) mark.spelled);
    }

pub back_view : (P : Network) (begin most events place : ℕ) (old new : State) (v m : Standing) → IsStore P begin most old → view_of P begin most old ≡ v → IsBehind m v → IsMark events place m → new.trail.items ≡ take events old.trail.items → view_of P place most new ≡ back_at m v
back_view P begin most events place old new v m is view behind mark trail =
    let items = back_trail P begin most events place old new v m is view behind mark trail in
    let f = fewer P begin most old v m is view behind in
    let t = ap length (trail ∙ ap (λ k. take k old.trail.items) mark.all ∙ front P begin most old v m is view behind) in let h = length-reverse (history m) in
    let w = is.within in
    let o = length-reverse old.trail.items in
    let hv = ap length (sym (history_is P begin most old is.steps) ∙ ap history view) in
    let sv = ap (λ (s : Standing). s.spare) view in
    let more : most - length new.trail.items ≡ v.spare + (length (history v) - length (history m)) = omega (arith, t, h, f, w, o, hv, sv) in
    same_standing P (ap reverse (back_base place m new.trail.items mark.before items) ∙ reverse-reverse m.base) (ap steps_in (back_block place m new.trail.items mark.before items) ∙ steps_of_events m.block) more
    ∙ ap (λ N. record { network = N; base = m.base; block = m.block; spare = v.spare + (length (history v) - length (history m)) }) (ap (λ (s : Standing). s.network) view)

-- where a store stands is a mark
pub mark_here : (P : Network) (begin most events : ℕ) (s : State) (v : Standing) → IsStore P begin most s → view_of P begin most s ≡ v → events ≡ length s.trail.items → IsMark events begin v
mark_here P begin most events s v is view count = record {
  all = let h = ap length (sym (history_is P begin most s is.steps) ∙ ap history view) in let r = length-reverse s.trail.items in omega (arith, h, r, count);
  before = let b = ap (λ (t : Standing). length t.base) view in let r = length-reverse (take begin s.trail.items) in let t = length-take-le begin s.trail.items is.base in omega (arith, b, r, t);
  spelled = subst (λ (t : Standing). AllByRecursion IsSpelledStep t.block) view is.spelled;
}

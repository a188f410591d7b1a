-- What each event makes of a state.
use Rattle.std.proofs.Common.{◌≡◌, ℕ, ◌<◌, ◌≤◌, ◌^◌, List, [], ◌∷◌, length, drop, refl, sym, ap, subst, ◌∙◌, arith}
use Rattle.std.proofs.lemmas.List.{length-reverse}
use Rattle.std.specs.Prelude.{pos, neg_ℤ, vec_capacity}
use Rattle.cfn_model.specs.declared.step.Decision.{Decision}
use Rattle.cfn_model.specs.declared.step.Step.TheVariants.{Project, Extend, Lift, CutValue, CutTuple}
use Rattle.cfn_model.specs.declared.step.Event.{Event}
use Rattle.cfn_model.specs.declared.step.Event.TheVariants.{Did, Took, Refused}
use Rattle.cfn_model.specs.Network.{Network, IsNetwork}
use Rattle.cfn_rows.specs.Sets.{Sets, with_event, without_newest}
use Rattle.cfn_store.specs.declared.cuts.Cuts.{Cuts}
use Rattle.cfn_store.specs.declared.state.State.{State}
use Rattle.cfn_store.specs.Events.{removals}
use Rattle.cfn_model.specs.Sums.{is_cut}
use Rattle.cfn_store.specs.Cutting.{IsCuts, fresh}
use Rattle.cfn_store.specs.Sums.{IsSums, Moves, Lifts}
use Rattle.cfn_store.specs.State.{Keeps, IsState, HasRoom, history_of}
use Rattle.cfn_store.proofs.Along.{fewer_removals, floor_below, floor_start}
use Rattle.cfn_store.proofs.Moving.{after_project, after_extend, after_lift, after_still, before_project, before_extend, before_lift, before_still}

-- cuts stay those of a history that cuts no tuple more, or less
still_cut : (P : Network) (event : Event) (history : List Event) (cuts : Cuts) → ((f c : ℕ) → is_cut (event ∷ history) f c ≡ is_cut history f c) → fresh (event ∷ history) ≡ fresh history → IsCuts P history cuts → IsCuts P (event ∷ history) cuts
still_cut P event history cuts no_cut no_fresh is = record {
  shape = is.shape;
  said = λ f c cell. is.said f c cell ∙ sym (no_cut f c);
  fresh_ones = is.fresh_ones ∙ sym no_fresh;
}

was_cut : (P : Network) (event : Event) (history : List Event) (cuts : Cuts) → ((f c : ℕ) → is_cut (event ∷ history) f c ≡ is_cut history f c) → fresh (event ∷ history) ≡ fresh history → IsCuts P (event ∷ history) cuts → IsCuts P history cuts
was_cut P event history cuts no_cut no_fresh is = record {
  shape = is.shape;
  said = λ f c cell. is.said f c cell ∙ no_cut f c;
  fresh_ones = is.fresh_ones ∙ no_fresh;
}

-- a step that moves costs
pub makes_shift : (P : Network) (event : Event) (history : List Event) (old new : State) → ((f c : ℕ) → is_cut (event ∷ history) f c ≡ is_cut history f c) → fresh (event ∷ history) ≡ fresh history → removals (event ∷ history) ≡ removals history → IsSums P (event ∷ history) new.sums → new.live ≡ old.live → new.cuts ≡ old.cuts → Keeps P history old → Keeps P (event ∷ history) new
makes_shift P event history old new no_cut no_fresh no_removal sums live cuts keeps = record {
  sums = sums;
  cuts = subst (IsCuts P (event ∷ history)) (sym cuts) (still_cut P event history old.cuts no_cut no_fresh keeps.cuts);
  sizes = ap (λ (s : Sets). s.sizes) live ∙ keeps.sizes;
  live = ap (λ (s : Sets). s.history) live ∙ keeps.live ∙ sym no_removal;
}

pub unmakes_shift : (P : Network) (event : Event) (history : List Event) (old new : State) → ((f c : ℕ) → is_cut (event ∷ history) f c ≡ is_cut history f c) → fresh (event ∷ history) ≡ fresh history → removals (event ∷ history) ≡ removals history → IsSums P history new.sums → new.live ≡ old.live → new.cuts ≡ old.cuts → Keeps P (event ∷ history) old → Keeps P history new
unmakes_shift P event history old new no_cut no_fresh no_removal sums live cuts keeps = record {
  sums = sums;
  cuts = subst (IsCuts P history) (sym cuts) (was_cut P event history old.cuts no_cut no_fresh keeps.cuts);
  sizes = ap (λ (s : Sets). s.sizes) live ∙ keeps.sizes;
  live = ap (λ (s : Sets). s.history) live ∙ keeps.live ∙ no_removal;
}

-- an event that takes values
pub makes_removal : (P : Network) (event : Event) (history : List Event) (old new : State) → ((f c : ℕ) → is_cut (event ∷ history) f c ≡ is_cut history f c) → fresh (event ∷ history) ≡ fresh history → removals (event ∷ history) ≡ event ∷ removals history → IsSums P (event ∷ history) old.sums → new.sums ≡ old.sums → new.live ≡ with_event old.live event → new.cuts ≡ old.cuts → Keeps P history old → Keeps P (event ∷ history) new
makes_removal P event history old new no_cut no_fresh removal moved sums live cuts keeps = record {
  sums = subst (IsSums P (event ∷ history)) (sym sums) moved;
  cuts = subst (IsCuts P (event ∷ history)) (sym cuts) (still_cut P event history old.cuts no_cut no_fresh keeps.cuts);
  sizes = ap (λ (s : Sets). s.sizes) live ∙ keeps.sizes;
  live = ap (λ (s : Sets). s.history) live ∙ ap (λ l. event ∷ l) keeps.live ∙ sym removal;
}

pub unmakes_removal : (P : Network) (event : Event) (history : List Event) (old new : State) → ((f c : ℕ) → is_cut (event ∷ history) f c ≡ is_cut history f c) → fresh (event ∷ history) ≡ fresh history → removals (event ∷ history) ≡ event ∷ removals history → IsSums P history old.sums → new.sums ≡ old.sums → new.live ≡ without_newest old.live → new.cuts ≡ old.cuts → Keeps P (event ∷ history) old → Keeps P history new
unmakes_removal P event history old new no_cut no_fresh removal moved sums live cuts keeps = record {
  sums = subst (IsSums P history) (sym sums) moved;
  cuts = subst (IsCuts P history) (sym cuts) (was_cut P event history old.cuts no_cut no_fresh keeps.cuts);
  sizes = ap (λ (s : Sets). s.sizes) live ∙ keeps.sizes;
  live = ap (λ (s : Sets). s.history) live ∙ ap (drop 1) (keeps.live ∙ removal);
}

-- each step, made and unmade
pub project_made : (P : Network) (history : List Event) (old new : State) (f i a m : ℕ) → Moves P f i a (pos m) old.sums new.sums → new.live ≡ old.live → new.cuts ≡ old.cuts → Keeps P history old → Keeps P (Did (Project f i a m) ∷ history) new
project_made P history old new f i a m moves live cuts keeps = makes_shift P (Did (Project f i a m)) history old new (λ g c. refl) refl refl (after_project P f i a m history old.sums new.sums moves keeps.sums) live cuts keeps

pub extend_made : (P : Network) (history : List Event) (old new : State) (f i a m : ℕ) → Moves P f i a (neg_ℤ (pos m)) old.sums new.sums → new.live ≡ old.live → new.cuts ≡ old.cuts → Keeps P history old → Keeps P (Did (Extend f i a m) ∷ history) new
extend_made P history old new f i a m moves live cuts keeps = makes_shift P (Did (Extend f i a m)) history old new (λ g c. refl) refl refl (after_extend P f i a m history old.sums new.sums moves keeps.sums) live cuts keeps

pub lift_made : (P : Network) (history : List Event) (old new : State) (x m : ℕ) → Lifts P x (pos m) old.sums new.sums → new.live ≡ old.live → new.cuts ≡ old.cuts → Keeps P history old → Keeps P (Did (Lift x m) ∷ history) new
lift_made P history old new x m lifts live cuts keeps = makes_shift P (Did (Lift x m)) history old new (λ g c. refl) refl refl (after_lift P x m history old.sums new.sums lifts keeps.sums) live cuts keeps

pub value_cut : (P : Network) (history : List Event) (old new : State) (x a : ℕ) → new.sums ≡ old.sums → new.live ≡ with_event old.live (Did (CutValue x a)) → new.cuts ≡ old.cuts → Keeps P history old → Keeps P (Did (CutValue x a) ∷ history) new
value_cut P history old new x a sums live cuts keeps = makes_removal P (Did (CutValue x a)) history old new (λ g c. refl) refl refl (after_still P history (Did (CutValue x a)) old.sums refl (λ y b. refl) (λ f i b. refl) keeps.sums) sums live cuts keeps

pub tuple_cut : (P : Network) (history : List Event) (old new : State) (f c : ℕ) → new.sums ≡ old.sums → new.live ≡ old.live → IsCuts P (Did (CutTuple f c) ∷ history) new.cuts → Keeps P history old → Keeps P (Did (CutTuple f c) ∷ history) new
tuple_cut P history old new f c sums live cuts keeps = record {
  sums = subst (IsSums P (Did (CutTuple f c) ∷ history)) (sym sums) (after_still P history (Did (CutTuple f c)) old.sums refl (λ y b. refl) (λ g i b. refl) keeps.sums);
  cuts = cuts;
  sizes = ap (λ (s : Sets). s.sizes) live ∙ keeps.sizes;
  live = ap (λ (s : Sets). s.history) live ∙ keeps.live;
}

pub project_unmade : (P : Network) (history : List Event) (old new : State) (f i a m : ℕ) → Moves P f i a (neg_ℤ (pos m)) old.sums new.sums → new.live ≡ old.live → new.cuts ≡ old.cuts → Keeps P (Did (Project f i a m) ∷ history) old → Keeps P history new
project_unmade P history old new f i a m moves live cuts keeps = unmakes_shift P (Did (Project f i a m)) history old new (λ g c. refl) refl refl (before_project P f i a m history old.sums new.sums moves keeps.sums) live cuts keeps

pub extend_unmade : (P : Network) (history : List Event) (old new : State) (f i a m : ℕ) → Moves P f i a (pos m) old.sums new.sums → new.live ≡ old.live → new.cuts ≡ old.cuts → Keeps P (Did (Extend f i a m) ∷ history) old → Keeps P history new
extend_unmade P history old new f i a m moves live cuts keeps = unmakes_shift P (Did (Extend f i a m)) history old new (λ g c. refl) refl refl (before_extend P f i a m history old.sums new.sums moves keeps.sums) live cuts keeps

pub lift_unmade : (P : Network) (history : List Event) (old new : State) (x m : ℕ) → Lifts P x (neg_ℤ (pos m)) old.sums new.sums → new.live ≡ old.live → new.cuts ≡ old.cuts → Keeps P (Did (Lift x m) ∷ history) old → Keeps P history new
lift_unmade P history old new x m lifts live cuts keeps = unmakes_shift P (Did (Lift x m)) history old new (λ g c. refl) refl refl (before_lift P x m history old.sums new.sums lifts keeps.sums) live cuts keeps

pub value_uncut : (P : Network) (history : List Event) (old new : State) (x a : ℕ) → new.sums ≡ old.sums → new.live ≡ without_newest old.live → new.cuts ≡ old.cuts → Keeps P (Did (CutValue x a) ∷ history) old → Keeps P history new
value_uncut P history old new x a sums live cuts keeps = unmakes_removal P (Did (CutValue x a)) history old new (λ g c. refl) refl refl (before_still P history (Did (CutValue x a)) old.sums refl (λ y b. refl) (λ f i b. refl) keeps.sums) sums live cuts keeps

pub tuple_uncut : (P : Network) (history : List Event) (old new : State) (f c : ℕ) → new.sums ≡ old.sums → new.live ≡ old.live → IsCuts P history new.cuts → Keeps P (Did (CutTuple f c) ∷ history) old → Keeps P history new
tuple_uncut P history old new f c sums live cuts keeps = record {
  sums = subst (IsSums P history) (sym sums) (before_still P history (Did (CutTuple f c)) old.sums refl (λ y b. refl) (λ g i b. refl) keeps.sums);
  cuts = cuts;
  sizes = ap (λ (s : Sets). s.sizes) live ∙ keeps.sizes;
  live = ap (λ (s : Sets). s.history) live ∙ keeps.live;
}

pub side_taken : (P : Network) (history : List Event) (old new : State) (d : Decision) → new.sums ≡ old.sums → new.live ≡ with_event old.live (Took d) → new.cuts ≡ old.cuts → Keeps P history old → Keeps P (Took d ∷ history) new
side_taken P history old new d sums live cuts keeps = makes_removal P (Took d) history old new (λ g c. refl) refl refl (after_still P history (Took d) old.sums refl (λ y b. refl) (λ f i b. refl) keeps.sums) sums live cuts keeps

pub side_refused : (P : Network) (history : List Event) (old new : State) (d : Decision) → new.sums ≡ old.sums → new.live ≡ with_event old.live (Refused d) → new.cuts ≡ old.cuts → Keeps P history old → Keeps P (Refused d ∷ history) new
side_refused P history old new d sums live cuts keeps = makes_removal P (Refused d) history old new (λ g c. refl) refl refl (after_still P history (Refused d) old.sums refl (λ y b. refl) (λ f i b. refl) keeps.sums) sums live cuts keeps

pub side_untaken : (P : Network) (history : List Event) (old new : State) (d : Decision) → new.sums ≡ old.sums → new.live ≡ without_newest old.live → new.cuts ≡ old.cuts → Keeps P (Took d ∷ history) old → Keeps P history new
side_untaken P history old new d sums live cuts keeps = unmakes_removal P (Took d) history old new (λ g c. refl) refl refl (before_still P history (Took d) old.sums refl (λ y b. refl) (λ f i b. refl) keeps.sums) sums live cuts keeps

pub side_unrefused : (P : Network) (history : List Event) (old new : State) (d : Decision) → new.sums ≡ old.sums → new.live ≡ without_newest old.live → new.cuts ≡ old.cuts → Keeps P (Refused d ∷ history) old → Keeps P history new
side_unrefused P history old new d sums live cuts keeps = unmakes_removal P (Refused d) history old new (λ g c. refl) refl refl (before_still P history (Refused d) old.sums refl (λ y b. refl) (λ f i b. refl) keeps.sums) sums live cuts keeps

-- there is room for one event more
pub live_room : (P : Network) (s : State) (room : ℕ) → IsState P s → HasRoom room s → length s.trail.items < room → 0 < s.live.spare
live_room P s room is has l =
    let r = has.live in
    let e = ap length is.keeps.live in
    let f = fewer_removals (history_of s) in
    let n = length-reverse s.trail.items in
    omega (arith, r, e, f, n, l)

fewer_fresh : (history : List Event) → length (fresh history) ≤ length history
fewer_fresh [] = omega arith
fewer_fresh (Did (Project f i b m) ∷ history) = (let r = fewer_fresh history in omega (arith, r))
fewer_fresh (Did (Extend f i b m) ∷ history) = (let r = fewer_fresh history in omega (arith, r))
fewer_fresh (Did (Lift y m) ∷ history) = (let r = fewer_fresh history in omega (arith, r))
fewer_fresh (Did (CutValue y b) ∷ history) = (let r = fewer_fresh history in omega (arith, r))
fewer_fresh (Did (CutTuple f c) ∷ history) = (let r = fewer_fresh history in omega (arith, r))
fewer_fresh (Took d ∷ history) = (let r = fewer_fresh history in omega (arith, r))
fewer_fresh (Refused d ∷ history) = (let r = fewer_fresh history in omega (arith, r))

pub fresh_room : (P : Network) (s : State) (room : ℕ) → IsState P s → HasRoom room s → length s.trail.items < room → length s.cuts.fresh.items < vec_capacity s.cuts.fresh
fresh_room P s room is has l =
    let r = has.cuts in
    let e = ap length is.keeps.cuts.fresh_ones in
    let f = fewer_fresh (history_of s) in
    let n = length-reverse s.trail.items in
    let m = length-reverse s.cuts.fresh.items in
    omega (arith, r, e, f, n, m, l)

pub floor_room : (P : Network) (s : State) (room : ℕ) → IsNetwork P → IsState P s → HasRoom room s → length s.trail.items < room → s.sums.floor < 2 ^ 127
floor_room P s room net is has l =
    let f = is.keeps.sums.floor in
    let b = floor_below P (history_of s) (floor_start P net) is.lifts in
    let n = length-reverse s.trail.items in
    let m = has.few in
    omega (arith, f, b, n, m, l)

pub none_kept : (P : Network) (s : State) → IsSums P [] s.sums → IsCuts P [] s.cuts → s.live.sizes ≡ P.sizes → s.live.history ≡ [] → Keeps P [] s
none_kept P s sums cuts sizes live = record { sums = sums; cuts = cuts; sizes = sizes; live = live }

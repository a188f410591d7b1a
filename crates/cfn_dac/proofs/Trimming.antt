-- Costly tuples are cut one after another.
use Rattle.std.proofs.Common.{◌≡◌, ◌&&◌, false, refl, ℕ, suc, ◌+◌, ◌-◌, ◌/◌, ◌%◌, ◌<◌, ◌≤◌, ◌⊎◌, inl, inr, List, [], ◌∷◌, length, length-append, drop, get_or, sym, ap, ◌∙◌, subst, arith}
use Rattle.std.proofs.lemmas.Int.{ints}
use Rattle.std.proofs.lemmas.Grind.{same_number_lists}
use Rattle.std.proofs.lemmas.Bool.{cases_eq}
use Rattle.std.specs.Prelude.{◌==◌, IsTrue, Ok, ℤ, pos, ◌+ℤ◌, ◌≤ℤ◌, ◌<ℤ◌}
use Rattle.cfn_model.specs.declared.step.Step.TheVariants.{CutTuple}
use Rattle.cfn_model.specs.declared.step.Event.{Event}
use Rattle.cfn_model.specs.Network.{Network, Fits, cells, cell, dims_at}
use Rattle.cfn_model.specs.declared.step.Event.TheVariants.{Did}
use Rattle.cfn_model.specs.Sums.{floor, residual, is_live_tuple}
use Rattle.cfn_model.proofs.CallerLemmas.{eqb_same, eqb_other}
use Rattle.cfn_model.specs.Steps.{CanCutTuple, IsCell, IsPlace}
use Rattle.cfn_gain.proofs.CallerLemmas.{history_step, passing_start, passing_adds, leads_close, new_cut_tuple, opened, tuple_kept}
use Rattle.cfn_net.proofs.CallerLemmas.{Fits-length, cell-below, digit_at}
use Rattle.cfn_store.specs.Standing.{Standing, history, with_step}
use Rattle.cfn_gain.specs.declared.limits.Limits.{Limits}
use Rattle.cfn_gain.specs.Calls.{GoesOn, Does, Passing}
use Rattle.cfn_consistency.specs.Groups.{IsBegun, MayBeOpen}
use Rattle.cfn_gain.specs.Gains.{Gained, IsOpen}
use Rattle.cfn_dac.specs.Moves.{Trims, KeepsCheap, CostBelow, IsCostly}
use Rattle.cfn_dac.proofs.Costs.{trims_none, trims_cut}

-- tuples with one number are one
one_tuple : (sizes one other : List ℕ) → Fits sizes one → Fits sizes other → cell sizes one ≡ cell sizes other → one ≡ other
one_tuple sizes one other fits also same =
    let n = Fits-length sizes one fits in let m = Fits-length sizes other also in
    same_number_lists one other (n ∙ sym m) (λ p l.
    (let h : p < length sizes = omega (arith, l, n) in
    sym (digit_at sizes one p fits h) ∙ ap (λ c. (c / cells (drop (suc p) sizes)) % get_or sizes p 0) same ∙ digit_at sizes other p also h))

reaches : (n lacks k : ℕ) (r : ℤ) → n + lacks ≡ k → pos lacks ≤ℤ r → pos k ≤ℤ (pos n +ℤ r)
reaches n lacks k r sum h = omega (arith, ints, sum, h)

pub can_cut : (P : Network) (history : List Event) (k lacks f i a c : ℕ) → floor P history + lacks ≡ k → IsCostly P history f i a lacks c → CanCutTuple P history k f c
can_cut P history k lacks f i a c sum is tuple fits at =
    let e = one_tuple (dims_at P f) is.tuple tuple is.picked.fits fits (is.cell_is ∙ sym at) in
    reaches (floor P history) lacks k (residual P history f tuple) sum (subst (λ t. pos lacks ≤ℤ residual P history f t) e is.cost)

pub is_cell : (P : Network) (history : List Event) (lacks f i a c : ℕ) → IsPlace P f i a → IsCostly P history f i a lacks c → IsCell P f c
is_cell P history lacks f i a c place is = record {
  function = place.function;
  cell = let b = cell-below (dims_at P f) is.tuple is.picked.fits in let e = is.cell_is in omega (arith, b, e);
}

-- where a call that cuts tuples is
pub record IsTrimming (before now : Standing) (limits : Limits) (lacks : ℕ) : Type 0 where
  pub sum : floor now.network (history now) + lacks ≡ limits.threshold
  pub passing : Passing before now limits (Unit {0})
  pub trims : Trims before.network (history before) (history now)

pub trimming_start : (s : Standing) (limits : Limits) (lacks : ℕ) → GoesOn s limits → floor s.network (history s) + lacks ≡ limits.threshold → IsTrimming s s limits lacks
trimming_start s limits lacks goes sum = record { sum = sum; passing = passing_start s limits (Unit {0}) goes tt; trims = trims_none s.network (history s) }

pub trimming_cut : (before now next : Standing) (limits : Limits) (lacks f c : ℕ) → IsTrimming before now limits lacks → Does now next limits (Ok tt) → next ≡ with_step now (CutTuple f c) → IsTrimming before next limits lacks
trimming_cut before now next limits lacks f c t does is = record {
  sum = subst (λ (u : Standing). floor u.network (history u) + lacks ≡ limits.threshold) (sym is) (let e = ap (floor now.network) (history_step now (CutTuple f c)) in let sum = t.sum in omega (arith, e, sum));
  passing = passing_adds before now next limits (Unit {0}) (Unit {0}) t.passing does.adds does.ends (λ same fact unchanged. tt);
  trims = subst (λ (u : Standing). Trims before.network (history before) (history u)) (sym is) (subst (Trims before.network (history before)) (sym (history_step now (CutTuple f c))) (trims_cut before.network (history before) (history now) f c t.trims));
}

-- a cut comes nearer to the limit
pub nearer : (now next : Standing) (limits : Limits) (f c : ℕ) → Does now next limits (Ok tt) → next ≡ with_step now (CutTuple f c) → limits.steps - length next.block < limits.steps - length now.block
nearer now next limits f c does is = by does.adds.within (ap (λ (u : Standing). length u.block) is ∙ length-append now.block (CutTuple f c ∷ []))
  where
    by : ((length next.block ≤ limits.steps) ⊎ (length next.block ≡ length now.block)) → length next.block ≡ length now.block + 1 → limits.steps - length next.block < limits.steps - length now.block
    by (inl h) long = omega (arith, h, long)
    by (inr same) long = absurd (omega (arith, same, long))

-- what is left is below the threshold
pub all_below : (P : Network) (history : List Event) (k lacks f i a : ℕ) → lacks ≤ k → CostBelow P history f i a lacks → CostBelow P history f i a k
all_below P history k lacks f i a le below tuple picked = more lacks k (residual P history f tuple) le (below tuple picked)
  where
    more : (lacks k : ℕ) (r : ℤ) → lacks ≤ k → r <ℤ pos lacks → r <ℤ pos k
    more lacks k r le h = omega (arith, ints, le, h)

-- only costly tuples are cut, and each cut closes a group
pub record IsCuttingIn (before now : Standing) (k f : ℕ) : Type 0 where
  pub keeps : KeepsCheap before.network (history before) (history now) k f
  pub gains : (start : Standing) → IsOpen start before → Gained start now ⊎ (now ≡ before)

pub cutting_none : (s : Standing) (k f : ℕ) → IsCuttingIn s s k f
cutting_none s k f = record {
  keeps = record { cheap = λ tuple live low. live.live; others = λ g tuple other. refl };
  gains = λ start was. inr refl;
}

uncut : (f g c d : ℕ) → (f ≡ g → c ≡ d → ⊥) → ((f == g) && (c == d)) ≡ false
uncut f g c d apart = elim (cases_eq f g) [
  | inl e ↦ ap (λ t. t && (c == d)) (eqb_same f g e) ∙ eqb_other c d (apart e)
  | inr e ↦ ap (λ t. t && (c == d)) (eqb_other f g e)
]

costs_less : (n lacks k : ℕ) (r : ℤ) → n + lacks ≡ k → pos lacks ≤ℤ r → (pos n +ℤ r) <ℤ pos k → ⊥
costs_less n lacks k r sum le low = absurd (omega (arith, ints, sum, le, low))

cheap_kept : (P : Network) (before now : List Event) (k lacks f i a c : ℕ) → floor P before + lacks ≡ k → Trims P before now → IsCostly P now f i a lacks c → (tuple : List ℕ) → Fits (dims_at P f) tuple → (pos (floor P before) +ℤ residual P before f tuple) <ℤ pos k → IsTrue (is_live_tuple P now f tuple) → IsTrue (is_live_tuple P (Did (CutTuple f c) ∷ now) f tuple)
cheap_kept P before now k lacks f i a c sum trims is tuple fits low live =
    tuple_kept P (Did (CutTuple f c)) now f tuple (λ x b. refl)
    (uncut f f c (cell (dims_at P f) tuple) (λ same e.
    (let t = one_tuple (dims_at P f) is.tuple tuple is.picked.fits fits (is.cell_is ∙ e) in
    costs_less (floor P before) lacks k (residual P before f tuple) sum (subst (λ r. pos lacks ≤ℤ r) (trims.residual f tuple) (subst (λ u. pos lacks ≤ℤ residual P now f u) t is.cost)) low))) ∙ live

pub cutting_one : (before now next : Standing) (k lacks f i a c : ℕ) → now.network ≡ before.network → floor before.network (history before) + lacks ≡ k → Trims before.network (history before) (history now) → IsCostly now.network (history now) f i a lacks c → next ≡ with_step now (CutTuple f c) → IsCuttingIn before now k f → IsCuttingIn before next k f
cutting_one before now next k lacks f i a c same sum trims costly made t = record {
  keeps = subst (λ h. KeepsCheap before.network (history before) h k f) (sym (ap history made ∙ history_step now (CutTuple f c))) (record {
    cheap = λ tuple live low. cheap_kept before.network (history before) (history now) k lacks f i a c sum trims is tuple live.fits low (t.keeps.cheap tuple live low);
    others = λ g tuple other. tuple_kept before.network (Did (CutTuple f c)) (history now) g tuple (λ x b. refl) (uncut f g c (cell (dims_at before.network g) tuple) (λ e d. other (sym e))) ∙ t.keeps.others g tuple other;
  });
  gains = λ start was. inl (leads_close start now next MayBeOpen (CutTuple f c) (by start was (t.gains start was)) made
      (λ g is_open. (new_cut_tuple g.steps f c, record { tuple = costly.tuple; fits = costly.picked.fits; cell = costly.cell_is; live = costly.picked.live })));
}
  where
    is : IsCostly before.network (history now) f i a lacks c
    is = subst (λ P. IsCostly P (history now) f i a lacks c) same costly

    by : (start : Standing) → IsOpen start before → Gained start now ⊎ (now ≡ before) → IsOpen start now
    by start was (inl gained) = opened start now IsBegun gained
    by start was (inr e) = subst (IsOpen start) (sym e) was

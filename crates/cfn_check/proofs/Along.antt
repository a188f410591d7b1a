-- What was shifted along a tuple.
use Rattle.std.proofs.Common.{◌≡◌, ℕ, zero, suc, ◌+◌, ◌<◌, List, [], ◌∷◌, length, get_or, take, refl, sym, ap, ◌∙◌, subst, inl, inr, arith}
use Rattle.std.proofs.lemmas.Bool.{cases_eq, eqb-true}
use Rattle.std.proofs.lemmas.Int.{ints}
use Rattle.std.specs.Prelude.{Bool, true, false, ◌&&◌, ◌==◌, ℤ, pos, neg_ℤ, ◌+ℤ◌, slice_index}
use Rattle.cfn_model.specs.declared.step.Step.TheVariants.{Project, Extend, Lift, CutValue, CutTuple}
use Rattle.cfn_model.specs.declared.step.Event.{Event}
use Rattle.cfn_model.specs.declared.step.Event.TheVariants.{Did, Took, Refused}
use Rattle.cfn_model.specs.Network.{Network, Fits, dims_at, scope_at}
use Rattle.cfn_model.specs.Sums.{when, residual_by, residual}
use Rattle.cfn_model.specs.Steps.{IsPlace}
use Rattle.cfn_model.proofs.CallerLemmas.{when_true, when_false, eqb_same, eqb_other}
use Rattle.cfn_net.proofs.CallerLemmas.{length-dims}
use Rattle.cfn_check.specs.declared.entry.Entry.{Entry}
use Rattle.cfn_tables.specs.Possible.{IsPossible}
use Rattle.cfn_tables.specs.Slots.{slots, slot, shifted_by, shifted}
use Rattle.cfn_check.specs.Along.{along}
use Rattle.cfn_check.specs.Standing.{IsTrail, events_of}

-- sums along a tuple
along_none : (start : ℕ) (sizes tuple : List ℕ) → along (λ n. pos 0) start sizes tuple ≡ pos 0
along_none start [] tuple = refl
along_none start (s ∷ ss) [] = refl
along_none start (s ∷ ss) (v ∷ vs) = let r = along_none (start + s) ss vs in omega (arith, ints, r)

along_sum : (g h : ℕ → ℤ) (start : ℕ) (sizes tuple : List ℕ) → along (λ n. g n +ℤ h n) start sizes tuple ≡ (along g start sizes tuple +ℤ along h start sizes tuple)
along_sum g h start [] tuple = omega (arith, ints)
along_sum g h start (s ∷ ss) [] = omega (arith, ints)
along_sum g h start (s ∷ ss) (v ∷ vs) = let r = along_sum g h (start + s) ss vs in omega (arith, ints, r)

along_before : (k : ℕ) (z : ℤ) (start : ℕ) (sizes tuple : List ℕ) → k < start → along (λ n. when (k == n) z) start sizes tuple ≡ pos 0
along_before k z start [] tuple l = refl
along_before k z start (s ∷ ss) [] l = refl
along_before k z start (s ∷ ss) (v ∷ vs) l =
    let here = when_false (k == start + v) z (eqb_other k (start + v) (λ e. omega arith)) in
    let r = along_before k z (start + s) ss vs (omega arith) in
    omega (arith, ints, here, r)

-- an amount at one slot counts where the tuple has the value at the place
along_one : (k : ℕ) (z : ℤ) (start i a : ℕ) (sizes tuple : List ℕ) → k ≡ start + (slots (take i sizes) + a) → i < length sizes → a < get_or sizes i 0 → Fits sizes tuple → along (λ n. when (k == n) z) start sizes tuple ≡ when (get_or tuple i 0 == a) z
along_one k z start i a [] tuple e l m h = absurd (omega arith)
along_one k z start i a (s ∷ ss) [] e l m h = absurd h
along_one k z start zero a (s ∷ ss) (v ∷ vs) e l m h =
    let r = along_before k z (start + s) ss vs (omega arith) in
    elim (cases_eq v a) [
      | inl same ↦ (let here = when_true (k == start + v) z (eqb_same k (start + v) (omega arith)) in
          let w = when_true (v == a) z (eqb_same v a same) in
          omega (arith, ints, here, w, r))
      | inr other ↦ (let here = when_false (k == start + v) z (eqb_other k (start + v) (λ f. other (omega arith))) in
          let w = when_false (v == a) z (eqb_other v a other) in
          omega (arith, ints, here, w, r))
    ]
along_one k z start (suc i) a (s ∷ ss) (v ∷ vs) e l m h =
    let below : v < s = h.0 in
    let here = when_false (k == start + v) z (eqb_other k (start + v) (λ f. omega arith)) in
    let r = along_one k z (start + s) i a ss vs (omega arith) (omega arith) m h.1 in
    omega (arith, ints, here, r)

-- a slot of a place
record IsSlotOf (k i a : ℕ) (sizes : List ℕ) : Type 0 where
  pub is : k ≡ slots (take i sizes) + a
  pub place : i < length sizes
  pub value : a < get_or sizes i 0

along_at : (b : Bool) (k : ℕ) (z : ℤ) (i a : ℕ) (sizes tuple : List ℕ) → (b ≡ true → IsSlotOf k i a sizes) → Fits sizes tuple → along (λ n. when (b && (k == n)) z) 0 sizes tuple ≡ when (b && (get_or tuple i 0 == a)) z
along_at true k z i a sizes tuple h fits = let s = h refl in along_one k z 0 i a sizes tuple (omega (arith, s.is)) s.place s.value fits
along_at false k z i a sizes tuple h fits = along_none 0 sizes tuple

minus_when : (b : Bool) (z : ℤ) → when b (neg_ℤ z) ≡ neg_ℤ (when b z)
minus_when true z = refl
minus_when false z = omega (arith, ints)

unless_minus : (b : Bool) (z : ℤ) → when b z ≡ neg_ℤ (when b (neg_ℤ z))
unless_minus true z = omega (arith, ints)
unless_minus false z = omega (arith, ints)

slot_of : (P : Network) (g f i a : ℕ) → IsPlace P g i a → (g == f) ≡ true → IsSlotOf (slot (dims_at P g) i a) i a (dims_at P f)
slot_of P g f i a range same =
    subst (λ n. IsSlotOf (slot (dims_at P g) i a) i a (dims_at P n)) (eqb-true g f same) (record {
      is = refl;
      place = omega (arith, range.place, length-dims P.sizes (scope_at P g));
      value = range.value;
    })

-- an event takes from the residual cost of a tuple what it shifts along it
pub event_along : (P : Network) (event : Event) (f : ℕ) (tuple : List ℕ) → IsPossible P event → Fits (dims_at P f) tuple → residual_by event f tuple ≡ neg_ℤ (along (λ n. shifted_by P event f n) 0 (dims_at P f) tuple)
event_along P (Did (Project g i a m)) f tuple h fits =
    minus_when ((g == f) && (slice_index tuple i == a)) (pos m)
    ∙ ap neg_ℤ (sym (along_at (g == f) (slot (dims_at P g) i a) (pos m) i a (dims_at P f) tuple (λ same. slot_of P g f i a h.0 same) fits))
event_along P (Did (Extend g i a m)) f tuple h fits =
    unless_minus ((g == f) && (slice_index tuple i == a)) (pos m)
    ∙ ap neg_ℤ (sym (along_at (g == f) (slot (dims_at P g) i a) (neg_ℤ (pos m)) i a (dims_at P f) tuple (λ same. slot_of P g f i a h.0 same) fits))
event_along P (Did (Lift x m)) f tuple h fits = let r = along_none 0 (dims_at P f) tuple in omega (arith, ints, r)
event_along P (Did (CutValue x a)) f tuple h fits = let r = along_none 0 (dims_at P f) tuple in omega (arith, ints, r)
event_along P (Did (CutTuple g c)) f tuple h fits = let r = along_none 0 (dims_at P f) tuple in omega (arith, ints, r)
event_along P (Took d) f tuple h fits = let r = along_none 0 (dims_at P f) tuple in omega (arith, ints, r)
event_along P (Refused d) f tuple h fits = let r = along_none 0 (dims_at P f) tuple in omega (arith, ints, r)

-- the residual cost of a tuple is its entry less what was shifted along it
pub residual_along : (P : Network) (entries : List Entry) (f : ℕ) (tuple : List ℕ) → IsTrail P entries → Fits (dims_at P f) tuple → residual P (events_of entries) f tuple ≡ (residual P [] f tuple +ℤ neg_ℤ (along (λ n. shifted P (events_of entries) f n) 0 (dims_at P f) tuple))
residual_along P [] f tuple trail fits = let r = along_none 0 (dims_at P f) tuple in omega (arith, ints, r)
residual_along P (entry ∷ entries) f tuple trail fits =
    let one = event_along P entry.event f tuple trail.0 fits in
    let rest = residual_along P entries f tuple trail.2 fits in
    let both = along_sum (λ n. shifted_by P entry.event f n) (λ n. shifted P (events_of entries) f n) 0 (dims_at P f) tuple in
    omega (arith, ints, one, rest, both)

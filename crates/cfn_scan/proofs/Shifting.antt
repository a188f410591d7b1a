-- A tuple's residual cost is its entry less what was moved away along it.
use Rattle.std.proofs.Common.{◌≡◌, ℕ, suc, zero, ◌+◌, ◌<◌, Bool, true, false, ◌&&◌, List, [], ◌∷◌, length, refl, sym, ap, subst, ◌∙◌, inl, inr, arith, zero-add}
use Rattle.std.proofs.lemmas.Int.{ints}
use Rattle.std.specs.Prelude.{ℤ, pos, neg_ℤ, ◌+ℤ◌, ◌==◌, slice_index}
use Rattle.cfn_model.specs.declared.step.Step.TheVariants.{Project, Extend, Lift, CutValue, CutTuple}
use Rattle.cfn_model.specs.declared.step.Event.{Event}
use Rattle.cfn_model.specs.declared.step.Event.TheVariants.{Did, Took, Refused}
use Rattle.cfn_model.specs.Network.{Network, Fits, dims_at, scope_at, arity}
use Rattle.std.proofs.lemmas.Bool.{cases_eq}
use Rattle.cfn_net.proofs.CallerLemmas.{length-dims}
use Rattle.cfn_model.specs.Sums.{when, residual, residual_by}
use Rattle.cfn_model.specs.Steps.{AllInRange, EventInRange}
use Rattle.cfn_model.proofs.CallerLemmas.{eqb_same, eqb_other, fits_length}
use Rattle.cfn_scan.specs.Shifts.{shift_by, shift, along}

-- nothing comes of a place before those of the tuple
before : (c : Bool) (j b i : ℕ) (z : ℤ) (tuple : List ℕ) → j < i → along (λ p a. when (c && ((j == p) && (a == b))) z) i tuple ≡ pos 0
before c j b i z [] l = refl
before false j b i z (a ∷ tuple) l = (let r = before false j b (suc i) z tuple (omega (arith, l)) in omega (arith, ints, r))
before true j b i z (a ∷ tuple) l =
    let e = ap (λ t. when (t && (a == b)) z) (eqb_other j i (λ e. (let bad = e in omega (arith, l, bad)))) in
    let r = before true j b (suc i) z tuple (omega (arith, l)) in
    omega (arith, ints, e, r)

none : (k : ℕ) (tuple : List ℕ) → along (λ p d. pos 0) k tuple ≡ pos 0
none k [] = refl
none k (d ∷ tuple) = (let r = none (suc k) tuple in omega (arith, ints, r))

-- of the amounts along a tuple that stand at one place and value alone, what comes is that of the tuple's value there
at_place : (c : Bool) (j b i : ℕ) (z : ℤ) (tuple : List ℕ) → j < length tuple → along (λ p a. when (c && ((i + j == p) && (a == b))) z) i tuple ≡ when (c && (slice_index tuple j == b)) z
at_place c j b i z [] l = absurd (omega (arith, l))
at_place false j b i z (a ∷ tuple) l = (let r = none (suc i) tuple in omega (arith, ints, r))
at_place true zero b i z (a ∷ tuple) l =
    let e = ap (λ t. when (t && (a == b)) z) (eqb_same (i + 0) i (omega arith)) in
    let r = before true (i + 0) b (suc i) z tuple (omega arith) in
    omega (arith, ints, e, r)
at_place true (suc j) b i z (a ∷ tuple) l =
    let e = ap (λ t. when (t && (a == b)) z) (eqb_other (i + suc j) i (λ e. (let bad = e in omega (arith, bad)))) in
    let r = at_place true j b (suc i) z tuple (omega (arith, l)) in
    let moved : i + suc j ≡ suc i + j = omega arith in
    let s = ap (λ n. along (λ p d. when ((n == p) && (d == b)) z) (suc i) tuple) moved in
    omega (arith, ints, e, r, s)

at_start : (c : Bool) (j b : ℕ) (z : ℤ) (tuple : List ℕ) → j < length tuple → along (λ p a. when (c && ((j == p) && (a == b))) z) 0 tuple ≡ when (c && (slice_index tuple j == b)) z
at_start c j b z tuple l = subst (λ n. along (λ p a. when (c && ((n == p) && (a == b))) z) 0 tuple ≡ when (c && (slice_index tuple j == b)) z) (zero-add j) (at_place c j b 0 z tuple l)

-- nothing comes of another function
elsewhere : (c : Bool) (test : ℕ → ℕ → Bool) (z : ℤ) (i : ℕ) (tuple : List ℕ) → c ≡ false → along (λ p d. when (c && test p d) z) i tuple ≡ pos 0
elsewhere true test z i tuple h = cc
elsewhere false test z i tuple h = none i tuple

negated : (c : Bool) (z : ℤ) → when c (neg_ℤ z) ≡ neg_ℤ (when c z)
negated true z = refl
negated false z = refl

again : (c : Bool) (z : ℤ) → when c z ≡ neg_ℤ (when c (neg_ℤ z))
again true z = (let e : z ≡ neg_ℤ (neg_ℤ z) = omega (arith, ints) in e)
again false z = refl

-- what one event takes from a tuple is what it moves away along it
moved_by : (P : Network) (event : Event) (f : ℕ) (tuple : List ℕ) → EventInRange P event → Fits (dims_at P f) tuple → residual_by event f tuple ≡ neg_ℤ (along (shift_by event f) 0 tuple)
moved_by P (Did (Project g j b m)) f tuple range fits = elim (cases_eq g f) [
  | inl here ↦ (let l : j < length tuple = omega (arith, range.place, ap (arity P) here, length-dims P.sizes (scope_at P f), fits_length (dims_at P f) tuple fits) in
      negated ((g == f) && (slice_index tuple j == b)) (pos m) ∙ ap neg_ℤ (sym (at_start (g == f) j b (pos m) tuple l)))
  | inr apart ↦ (let e = ap (λ t. when (t && (slice_index tuple j == b)) (neg_ℤ (pos m))) (eqb_other g f apart) in
      e ∙ ap neg_ℤ (sym (elsewhere (g == f) (λ p d. (j == p) && (d == b)) (pos m) 0 tuple (eqb_other g f apart))))
]
moved_by P (Did (Extend g j b m)) f tuple range fits = elim (cases_eq g f) [
  | inl here ↦ (let l : j < length tuple = omega (arith, range.place, ap (arity P) here, length-dims P.sizes (scope_at P f), fits_length (dims_at P f) tuple fits) in
      again ((g == f) && (slice_index tuple j == b)) (pos m) ∙ ap neg_ℤ (sym (at_start (g == f) j b (neg_ℤ (pos m)) tuple l)))
  | inr apart ↦ (let e = ap (λ t. when (t && (slice_index tuple j == b)) (pos m)) (eqb_other g f apart) in
      e ∙ ap neg_ℤ (sym (elsewhere (g == f) (λ p d. (j == p) && (d == b)) (neg_ℤ (pos m)) 0 tuple (eqb_other g f apart))))
]
moved_by P (Did (Lift x m)) f tuple range fits = ap neg_ℤ (sym (none 0 tuple))
moved_by P (Did (CutValue x b)) f tuple range fits = ap neg_ℤ (sym (none 0 tuple))
moved_by P (Did (CutTuple g c)) f tuple range fits = ap neg_ℤ (sym (none 0 tuple))
moved_by P (Took d) f tuple range fits = ap neg_ℤ (sym (none 0 tuple))
moved_by P (Refused d) f tuple range fits = ap neg_ℤ (sym (none 0 tuple))

-- what a history moves away along a tuple is the sum of what its events do
along_plus : (event : Event) (history : List Event) (f i : ℕ) (tuple : List ℕ) → along (shift (event ∷ history) f) i tuple ≡ along (shift_by event f) i tuple +ℤ along (shift history f) i tuple
along_plus event history f i [] = refl
along_plus event history f i (a ∷ tuple) = (let r = along_plus event history f (suc i) tuple in omega (arith, ints, r))

pub residual_is : (P : Network) (history : List Event) (f : ℕ) (tuple : List ℕ) → AllInRange P history → Fits (dims_at P f) tuple → residual P history f tuple ≡ residual P [] f tuple +ℤ neg_ℤ (along (shift history f) 0 tuple)
residual_is P [] f tuple range fits = (let n = none 0 tuple in omega (arith, ints, n))
residual_is P (event ∷ history) f tuple range fits =
    let e = moved_by P event f tuple range.0 fits in
    let r = residual_is P history f tuple range.1 fits in
    let s = along_plus event history f 0 tuple in
    omega (arith, ints, e, r, s)

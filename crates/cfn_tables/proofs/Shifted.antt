-- What a project or an extend changes.
use Rattle.std.proofs.Common.{◌≡◌, ℕ, ◌<◌, length, get_or, set, refl, sym, ap, ◌∙◌, inl, inr, arith, zero-add, get_or-set_same, get_or-set_other}
use Rattle.std.proofs.lemmas.Bool.{cases_eq}
use Rattle.std.proofs.lemmas.Int.{ints}
use Rattle.std.specs.Prelude.{Bool, true, false, ◌&&◌, ◌==◌, ℤ, pos, neg_ℤ, ◌+ℤ◌}
use Rattle.cfn_model.specs.Network.{Network, dims_at, variable_at}
use Rattle.cfn_model.specs.Sums.{when}
use Rattle.cfn_model.specs.Steps.{IsPlace}
use Rattle.cfn_model.proofs.CallerLemmas.{eqb_same, eqb_other, when_true, when_false}
use Rattle.cfn_tables.specs.Slots.{slot}
use Rattle.cfn_tables.specs.Values.{Gains}
use Rattle.cfn_tables.specs.Tables.{Values, Tuples, Tables, no_values, no_tuples, values_at, tuples_at, unary_at, takers_at, shift_at, HasShape, Moves}

first_holds : (b c : Bool) (z : ℤ) → b ≡ true → when (b && c) z ≡ when c z
first_holds b c z h = rw h refl

first_fails : (b c : Bool) (z : ℤ) → b ≡ false → when (b && c) z ≡ pos 0
first_fails b c z h = rw h refl

pub shifted : (P : Network) (f i a x k : ℕ) (z : ℤ) (old : Tables) (v : Values) (t : Tuples) → HasShape P old → IsPlace P f i a → x < length P.sizes → x ≡ variable_at P f i → k ≡ slot (dims_at P f) i a → k < length (tuples_at old f).sums → Gains (λ b. when (a == b) z) (values_at old x).costs v.costs → v.takers ≡ (values_at old x).takers → t.sums ≡ set (tuples_at old f).sums k (z +ℤ get_or (tuples_at old f).sums k (pos 0)) → Moves P 0 (λ y b. when ((variable_at P f i == y) && (a == b)) z) (λ y b. 0) (λ g n. when ((f == g) && (slot (dims_at P f) i a == n)) z) old (record { floor = old.floor; variables = set old.variables x v; functions = set old.functions f t })
shifted P f i a x k z old v t shape range there at is within gains same sums = record {
  floor = omega arith;
  unary = λ y b l m. elim (cases_eq x y) [
    | inl here ↦ (let e = ap (λ w. get_or w.costs b (pos 0)) (ap (λ n. get_or (set old.variables x v) n no_values) (sym here) ∙ get_or-set_same old.variables x v no_values (omega (arith, shape.variables))) in
        let g = gains.each b (omega (arith, ap (λ n. length (values_at old n).costs) here, shape.unary y l)) in
        let r = ap (λ n. unary_at old n b) here in
        let w = first_holds (variable_at P f i == y) (a == b) z (eqb_same (variable_at P f i) y (sym at ∙ here)) in
        omega (arith, ints, e, g, r, w))
    | inr apart ↦ (let e = ap (λ w. get_or w.costs b (pos 0)) (get_or-set_other old.variables x y v no_values (λ e. apart (sym e))) in
        let w = first_fails (variable_at P f i == y) (a == b) z (eqb_other (variable_at P f i) y (λ e. apart (at ∙ e))) in
        omega (arith, ints, e, w))
  ];
  takers = λ y b l m. elim (cases_eq x y) [
    | inl here ↦ ap (λ w. get_or w.takers b 0) (ap (λ n. get_or (set old.variables x v) n no_values) (sym here) ∙ get_or-set_same old.variables x v no_values (omega (arith, shape.variables))) ∙ ap (λ ns. get_or ns b 0) same ∙ ap (λ n. takers_at old n b) here ∙ sym (zero-add (takers_at old y b))
    | inr apart ↦ ap (λ w. get_or w.takers b 0) (get_or-set_other old.variables x y v no_values (λ e. apart (sym e))) ∙ sym (zero-add (takers_at old y b))
  ];
  shifts = λ g n l m. elim (cases_eq f g) [
    | inl here ↦ (let e = ap (λ w. get_or w.sums n (pos 0)) (ap (λ j. get_or (set old.functions f t) j no_tuples) (sym here) ∙ get_or-set_same old.functions f t no_tuples (omega (arith, shape.functions))) ∙ ap (λ ns. get_or ns n (pos 0)) sums in
        let r = ap (λ j. shift_at old j n) here in
        let w = first_holds (f == g) (slot (dims_at P f) i a == n) z (eqb_same f g here) in
        elim (cases_eq k n) [
          | inl on ↦ (let s = ap (λ j. get_or (set (tuples_at old f).sums k (z +ℤ get_or (tuples_at old f).sums k (pos 0))) j (pos 0)) (sym on) ∙ get_or-set_same (tuples_at old f).sums k (z +ℤ get_or (tuples_at old f).sums k (pos 0)) (pos 0) within in
              let q = ap (λ j. get_or (tuples_at old f).sums j (pos 0)) on in
              let u = when_true (slot (dims_at P f) i a == n) z (eqb_same (slot (dims_at P f) i a) n (sym is ∙ on)) in
              omega (arith, ints, e, r, w, s, q, u))
          | inr off ↦ (let s = get_or-set_other (tuples_at old f).sums k n (z +ℤ get_or (tuples_at old f).sums k (pos 0)) (pos 0) (λ e. off (sym e)) in
              let u = when_false (slot (dims_at P f) i a == n) z (eqb_other (slot (dims_at P f) i a) n (λ e. off (is ∙ e))) in
              omega (arith, ints, e, r, w, s, u))
        ])
    | inr apart ↦ (let e = ap (λ w. get_or w.sums n (pos 0)) (get_or-set_other old.functions f g t no_tuples (λ e. apart (sym e))) in
        let w = first_fails (f == g) (slot (dims_at P f) i a == n) z (eqb_other f g apart) in
        omega (arith, ints, e, w))
  ];
}

-- what was added is taken off again
pub moved_back : (P : Network) (here : ℕ → ℕ → Bool) (there : ℕ → ℕ → Bool) (z z' : ℤ) (old new : Tables) → z' ≡ neg_ℤ z → Moves P 0 (λ y b. when (here y b) z) (λ y b. 0) (λ g n. when (there g n) z) old new → Moves P 0 (λ y b. when (here y b) z') (λ y b. 0) (λ g n. when (there g n) z') new old
moved_back P here there z z' old new is m = record {
  floor = omega (arith, m.floor);
  unary = λ y b l k. (let e = m.unary y b l k in let w = opposite (here y b) in omega (arith, ints, e, w));
  takers = λ y b l k. (let e = m.takers y b l k in omega (arith, e));
  shifts = λ g n l k. (let e = m.shifts g n l k in let w = opposite (there g n) in omega (arith, ints, e, w));
}
  where
    opposite : (b : Bool) → when b z' ≡ neg_ℤ (when b z)
    opposite true = is
    opposite false = omega (arith, ints)

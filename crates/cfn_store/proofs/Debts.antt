-- What steps that are allowed, and decisions, keep: no debts, and costs below 2^64.
use Rattle.std.proofs.Common.{◌≡◌, ℕ, Bool, true, false, ◌&&◌, ◌<◌, ◌^◌, List, [], ◌∷◌, sym, ap, subst, ◌∙◌, inl, inr, arith}
use Rattle.std.proofs.lemmas.Bool.{cases_eq}
use Rattle.std.proofs.lemmas.Int.{ints}
use Rattle.std.specs.Prelude.{ℤ, pos, neg_ℤ, ◌+ℤ◌, ◌≤ℤ◌, ◌<ℤ◌, ◌==◌, slice_index, IsTrue, nat_lt}
use Rattle.cfn_model.specs.declared.step.Step.TheVariants.{Project, Extend, Lift}
use Rattle.cfn_model.specs.declared.step.Event.{Event}
use Rattle.cfn_model.specs.declared.step.Event.TheVariants.{Did}
use Rattle.cfn_model.specs.Network.{Network, IsNetwork, Fits, cell, dims_at, arity, variable_at, entry_at}
use Rattle.cfn_model.specs.Sums.{when, unary, unary_by, residual, residual_by, is_live, is_live_tuple}
use Rattle.cfn_model.specs.Steps.{CanProject, CanExtend, CanLift}
use Rattle.cfn_model.specs.Paths.{HasSmallCosts}
use Rattle.cfn_model.proofs.CallerLemmas.{eqb_same, eqb_other, fewer, tuple_fewer}
use Rattle.cfn_scan.specs.Exact.{HasNoDebts, IsExact}

-- an amount that stands under a test of two equalities comes where both hold, and else nothing comes
pub when_pair : (x y a b : ℕ) (z : ℤ) (Q : ℤ → Type 0) → (x ≡ y → a ≡ b → Q z) → ((x ≡ y → a ≡ b → ⊥) → Q (pos 0)) → Q (when ((x == y) && (a == b)) z)
when_pair x y a b z Q both none = elim (cases_eq x y) [
  | inl e ↦ elim (cases_eq a b) [
    | inl d ↦ subst Q (sym (ap (λ t. when (t && (a == b)) z) (eqb_same x y e) ∙ ap (λ t. when t z) (eqb_same a b d))) (both e d)
    | inr d ↦ subst Q (sym (ap (λ t. when (t && (a == b)) z) (eqb_same x y e) ∙ ap (λ t. when t z) (eqb_other a b d))) (none (λ u v. d v))
  ]
  | inr e ↦ subst Q (sym (ap (λ t. when (t && (a == b)) z) (eqb_other x y e))) (none (λ u v. e u))
]

pub when_both : (x y a b : ℕ) (z : ℤ) (Q : ℤ → Type 0) → (x ≡ y → a ≡ b → Q z) → Q (pos 0) → Q (when ((x == y) && (a == b)) z)
when_both x y a b z Q both none = when_pair x y a b z Q both (λ apart. none)

pub when_one : (x y : ℕ) (z : ℤ) (Q : ℤ → Type 0) → (x ≡ y → Q z) → Q (pos 0) → Q (when (x == y) z)
when_one x y z Q same none = elim (cases_eq x y) [
  | inl e ↦ subst Q (sym (ap (λ t. when t z) (eqb_same x y e))) (same e)
  | inr e ↦ subst Q (sym (ap (λ t. when t z) (eqb_other x y e))) none
]

entry_first : (test : Bool) (n : ℕ) → pos 0 ≤ℤ when test (pos n)
entry_first true n = omega (arith, ints)
entry_first false n = omega (arith, ints)

pub none_at_first : (P : Network) → HasNoDebts P []
none_at_first P = record {
  unary = λ x a value live. omega (arith, ints);
  residual = λ f tuple there fits live. entry_first (nat_lt 0 (arity P f)) (entry_at P f tuple);
}

pub debts_project : (P : Network) (history : List Event) (f i a m : ℕ) → CanProject P history f i a m → HasNoDebts P history → HasNoDebts P (Did (Project f i a m) ∷ history)
debts_project P history f i a m can old = record {
  unary = λ x b value live. (let h = old.unary x b value live in
      when_both (variable_at P f i) x a b (pos m) (λ z. pos 0 ≤ℤ (z +ℤ unary P history x b)) (λ e d. omega (arith, ints, h)) (omega (arith, ints, h)));
  residual = λ g tuple there fits live. (let h = old.residual g tuple there fits live in
      when_both f g (slice_index tuple i) a (neg_ℤ (pos m)) (λ z. pos 0 ≤ℤ (z +ℤ residual P history g tuple))
      (λ e d. (let c = subst (λ n. pos m ≤ℤ residual P history n tuple) e (can tuple (subst (λ n. Fits (dims_at P n) tuple) (sym e) fits) d (subst (λ n. IsTrue (is_live_tuple P history n tuple)) (sym e) live)) in omega (arith, ints, c)))
      (omega (arith, ints, h)));
}

pub debts_extend : (P : Network) (history : List Event) (f i a m : ℕ) → CanExtend P history (variable_at P f i) a m → HasNoDebts P history → HasNoDebts P (Did (Extend f i a m) ∷ history)
debts_extend P history f i a m can old = record {
  unary = λ x b value live. (let h = old.unary x b value live in
      when_both (variable_at P f i) x a b (neg_ℤ (pos m)) (λ z. pos 0 ≤ℤ (z +ℤ unary P history x b))
      (λ e d. (let c = can (subst (λ n. IsTrue (is_live history n a)) (sym e) (subst (λ n. IsTrue (is_live history x n)) (sym d) live)) in
      let u = ap (λ n. unary P history n a) e ∙ ap (unary P history x) d in omega (arith, ints, c, u)))
      (omega (arith, ints, h)));
  residual = λ g tuple there fits live. (let h = old.residual g tuple there fits live in
      when_both f g (slice_index tuple i) a (pos m) (λ z. pos 0 ≤ℤ (z +ℤ residual P history g tuple)) (λ e d. omega (arith, ints, h)) (omega (arith, ints, h)));
}

pub debts_lift : (P : Network) (history : List Event) (x m : ℕ) → CanLift P history x m → HasNoDebts P history → HasNoDebts P (Did (Lift x m) ∷ history)
debts_lift P history x m can old = record {
  unary = λ y b value live. (let h = old.unary y b value live in
      when_one x y (neg_ℤ (pos m)) (λ z. pos 0 ≤ℤ (z +ℤ unary P history y b))
      (λ e. (let c = can b (subst (λ n. b < slice_index P.sizes n) (sym e) value.value) (subst (λ n. IsTrue (is_live history n b)) (sym e) live) in
      let u = ap (λ n. unary P history n b) e in omega (arith, ints, c, u)))
      (omega (arith, ints, h)));
  residual = λ g tuple there fits live. (let h = old.residual g tuple there fits live in omega (arith, ints, h));
}

-- an event that moves nothing
pub debts_still : (P : Network) (history : List Event) (event : Event) → ((x a : ℕ) → unary_by P event x a ≡ pos 0) → ((f : ℕ) (tuple : List ℕ) → residual_by event f tuple ≡ pos 0) → HasNoDebts P history → HasNoDebts P (event ∷ history)
debts_still P history event no_unary no_residual old = record {
  unary = λ x a value live. (let h = old.unary x a value (fewer event history x a live) in let none = no_unary x a in omega (arith, ints, h, none));
  residual = λ f tuple there fits live. (let h = old.residual f tuple there fits (tuple_fewer P event history f tuple live) in let none = no_residual f tuple in omega (arith, ints, h, none));
}

pub small_project : (P : Network) (history : List Event) (f i a m : ℕ) → (IsTrue (is_live history (variable_at P f i) a) → (unary P history (variable_at P f i) a +ℤ pos m) <ℤ pos (2 ^ 64)) → HasSmallCosts P history → HasSmallCosts P (Did (Project f i a m) ∷ history)
small_project P history f i a m fits_in old = record {
  unary = λ x b value live. (let h = old.unary x b value live in
      when_both (variable_at P f i) x a b (pos m) (λ z. (z +ℤ unary P history x b) <ℤ pos (2 ^ 64))
      (λ e d. (let c = fits_in (subst (λ n. IsTrue (is_live history n a)) (sym e) (subst (λ n. IsTrue (is_live history x n)) (sym d) live)) in
      let u = ap (λ n. unary P history n a) e ∙ ap (unary P history x) d in omega (arith, ints, c, u)))
      (omega (arith, ints, h)));
  residual = λ g tuple there fits live. (let h = old.residual g tuple there fits live in
      when_both f g (slice_index tuple i) a (neg_ℤ (pos m)) (λ z. (z +ℤ residual P history g tuple) <ℤ pos (2 ^ 64)) (λ e d. omega (arith, ints, h)) (omega (arith, ints, h)));
}

pub small_extend : (P : Network) (history : List Event) (f i a m : ℕ) → ((tuple : List ℕ) → Fits (dims_at P f) tuple → slice_index tuple i ≡ a → IsTrue (is_live_tuple P history f tuple) → (residual P history f tuple +ℤ pos m) <ℤ pos (2 ^ 64)) → HasSmallCosts P history → HasSmallCosts P (Did (Extend f i a m) ∷ history)
small_extend P history f i a m fits_in old = record {
  unary = λ x b value live. (let h = old.unary x b value live in
      when_both (variable_at P f i) x a b (neg_ℤ (pos m)) (λ z. (z +ℤ unary P history x b) <ℤ pos (2 ^ 64)) (λ e d. omega (arith, ints, h)) (omega (arith, ints, h)));
  residual = λ g tuple there fits live. (let h = old.residual g tuple there fits live in
      when_both f g (slice_index tuple i) a (pos m) (λ z. (z +ℤ residual P history g tuple) <ℤ pos (2 ^ 64))
      (λ e d. (let c = subst (λ n. (residual P history n tuple +ℤ pos m) <ℤ pos (2 ^ 64)) e (fits_in tuple (subst (λ n. Fits (dims_at P n) tuple) (sym e) fits) d (subst (λ n. IsTrue (is_live_tuple P history n tuple)) (sym e) live)) in omega (arith, ints, c)))
      (omega (arith, ints, h)));
}

pub small_lift : (P : Network) (history : List Event) (x m : ℕ) → HasSmallCosts P history → HasSmallCosts P (Did (Lift x m) ∷ history)
small_lift P history x m old = record {
  unary = λ y b value live. (let h = old.unary y b value live in
      when_one x y (neg_ℤ (pos m)) (λ z. (z +ℤ unary P history y b) <ℤ pos (2 ^ 64)) (λ e. omega (arith, ints, h)) (omega (arith, ints, h)));
  residual = λ g tuple there fits live. (let h = old.residual g tuple there fits live in omega (arith, ints, h));
}

pub small_still : (P : Network) (history : List Event) (event : Event) → ((x a : ℕ) → unary_by P event x a ≡ pos 0) → ((f : ℕ) (tuple : List ℕ) → residual_by event f tuple ≡ pos 0) → HasSmallCosts P history → HasSmallCosts P (event ∷ history)
small_still P history event no_unary no_residual old = record {
  unary = λ x a value live. (let h = old.unary x a value (fewer event history x a live) in let none = no_unary x a in omega (arith, ints, h, none));
  residual = λ f tuple there fits live. (let h = old.residual f tuple there fits (tuple_fewer P event history f tuple live) in let none = no_residual f tuple in omega (arith, ints, h, none));
}

small_first : (test : Bool) (n : ℕ) → n < 2 ^ 64 → when test (pos n) <ℤ pos (2 ^ 64)
small_first true n l = omega (arith, ints, l)
small_first false n l = omega (arith, ints)

-- costs are exact before any event
pub exact_at_root : (P : Network) → IsNetwork P → IsExact P []
exact_at_root P net = record {
  small = record {
    unary = λ x a value live. omega (arith, ints);
    residual = λ f tuple there fits live. small_first (nat_lt 0 (arity P f)) (entry_at P f tuple) (let c = (net.functions f there).capped (cell (dims_at P f) tuple) in let u = net.upper in omega (arith, c, u));
  };
  no_debts = none_at_first P;
  range = tt {0};
}

-- A function has no more places than its network has variables, since its variables are different.
use Rattle.std.proofs.Common.{◌≡◌, ◌⊎◌, ℕ, zero, suc, ◌<◌, ◌≤◌, Bool, true, false, cond, eqb, inl, inr, length, refl, sym, ◌∙◌, arith, eq-eqb, eqb-true, slice_index}
use Rattle.std.proofs.lemmas.Bool.{cases_lt}
use Rattle.cfn_model.specs.Network.{Network, IsNetwork, arity, scope_at}

-- ---- different numbers below a bound are no more than it: the pigeonhole principle

abbrev avoiding : (ℕ → ℕ) → ℕ → ℕ → ℕ → ℕ
avoiding f m last i = cond (eqb (f i) m) (f last) (f i)

abbrev Avoids : ℕ → ℕ → ℕ → ℕ → Type 0
Avoids x m y r = ((x ≡ m) × (r ≡ y)) ⊎ ((x ≡ m → ⊥) × (r ≡ x))

not_equal : (x m : ℕ) → eqb x m ≡ false → x ≡ m → ⊥
not_equal x m e is = true_false (sym (eq-eqb x m is) ∙ e)
  where
    true_false : true ≡ false → ⊥
    true_false h = cc

avoids_by : (x m y : ℕ) (t : Bool) → eqb x m ≡ t → Avoids x m y (cond t y x)
avoids_by x m y true e = inl (eqb-true x m e, refl)
avoids_by x m y false e = inr (not_equal x m e, refl)

avoids : (x m y : ℕ) → Avoids x m y (cond (eqb x m) y x)
avoids x m y = avoids_by x m y (eqb x m) refl

abbrev Into : (ℕ → ℕ) → ℕ → ℕ → Type 0
Into f n m = (i : ℕ) → i < n → f i < m

abbrev OneToOne : (ℕ → ℕ) → ℕ → Type 0
OneToOne f n = (i j : ℕ) → i < n → j < n → f i ≡ f j → i ≡ j

into_less : (f : ℕ → ℕ) (n m : ℕ) → Into f (suc n) (suc m) → OneToOne f (suc n) → Into (avoiding f m n) n m
into_less f n m into one i p =
    let a = into i (omega arith) in
    let b = into n (omega arith) in
    let ne : f i ≡ f n → ⊥ = λ e. let z = one i n (omega arith) (omega arith) e in omega arith in
    elim (avoids (f i) m (f n)) [ inl w ↦ omega (arith, w.0, w.1) | inr w ↦ omega (arith, w.0, w.1) ]

one_less : (f : ℕ → ℕ) (n m : ℕ) → OneToOne f (suc n) → OneToOne (avoiding f m n) n
one_less f n m one i j p q e =
    elim (avoids (f i) m (f n)) [
      | inl v ↦ elim (avoids (f j) m (f n)) [
        | inl w ↦ one i j (omega arith) (omega arith) (v.0 ∙ sym w.0)
        | inr w ↦ let z = one n j (omega arith) (omega arith) (sym v.1 ∙ e ∙ w.1) in absurd (omega arith)
      ]
      | inr v ↦ elim (avoids (f j) m (f n)) [
        | inl w ↦ let z = one i n (omega arith) (omega arith) (sym v.1 ∙ e ∙ w.1) in absurd (omega arith)
        | inr w ↦ one i j (omega arith) (omega arith) (sym v.1 ∙ e ∙ w.1)
      ]
    ]

pigeonhole : (n m : ℕ) (f : ℕ → ℕ) → Into f n m → OneToOne f n → n ≤ m
pigeonhole zero m f into one = omega arith
pigeonhole (suc n) zero f into one = absurd (omega (arith, into n (omega arith)))
pigeonhole (suc n) (suc m) f into one = omega (arith, pigeonhole n m (avoiding f m n) (into_less f n m into one) (one_less f n m one))

-- ---- a function has no more places than its network has variables

pub few_places : (P : Network) (f : ℕ) → IsNetwork P → f < length P.functions → arity P f ≤ length P.sizes
few_places P f network there =
    let scope = scope_at P f in
    let is = network.functions f there in
    pigeonhole (length scope) (length P.sizes) (slice_index scope) (λ i l. is.variables i l) (λ i j p q e. elim (cases_lt i j) [
      | inl before ↦ absurd (is.different i j before q e)
      | inr late ↦ elim (cases_lt j i) [
        | inl behind ↦ absurd (is.different j i behind p (sym e))
        | inr more ↦ omega (arith, late, more)
      ]
    ])

-- Numbers of one digit and of two, and the table of the two digits of a number.
use Rattle.std.proofs.Common.{◌≡◌, ℕ, zero, suc, ◌<◌, ◌≤◌, ◌+◌, ◌*◌, ◌/◌, ◌%◌, Bool, true, ◌&&◌, [], ◌∷◌, ◌++◌, inl, inr, refl, sym, ap, subst, ◌∙◌, arith, eqb-true}
use Rattle.std.specs.Prelude.{decimal, slice_index, ◌==◌}
use Rattle.std.proofs.lemmas.Bool.{and_parts, cases_eq}
use Rattle.std.proofs.lemmas.Fmt.{decimal_digit, decimal_step}
use Rattle.cfn_line.specs.declared.digits.TheConstants.{PAIRS}

-- the table's bytes for the numbers below one are their digits
abbrev are_pairs : ℕ → Bool
are_pairs zero = true
are_pairs (suc p) = ((slice_index PAIRS (p * 2) == (48 + p / 10)) && (slice_index PAIRS (p * 2 + 1) == (48 + p % 10))) && are_pairs p

below : (n p : ℕ) → are_pairs n ≡ true → p < n → (slice_index PAIRS (p * 2) ≡ 48 + p / 10) × (slice_index PAIRS (p * 2 + 1) ≡ 48 + p % 10)
below zero p all l = absurd (omega (arith, l))
below (suc n) p all l =
    let here = and_parts ((slice_index PAIRS (n * 2) == (48 + n / 10)) && (slice_index PAIRS (n * 2 + 1) == (48 + n % 10))) (are_pairs n) all in
    let both = and_parts (slice_index PAIRS (n * 2) == (48 + n / 10)) (slice_index PAIRS (n * 2 + 1) == (48 + n % 10)) here.0 in
    elim (cases_eq n p) [
      | inl e ↦ subst (λ q. (slice_index PAIRS (q * 2) ≡ 48 + q / 10) × (slice_index PAIRS (q * 2 + 1) ≡ 48 + q % 10)) e (eqb-true _ _ both.0, eqb-true _ _ both.1)
      | inr e ↦ below n p here.1 (omega (arith, l, e))
    ]

pub pair_at : (p : ℕ) → p < 100 → (slice_index PAIRS (p * 2) ≡ 48 + p / 10) × (slice_index PAIRS (p * 2 + 1) ≡ 48 + p % 10)
pair_at p l = below 100 p refl l

-- a number of one digit, and one of two
pub one_digit : (n end : ℕ) → n < 10 → (48 + n) ∷ end ∷ [] ≡ decimal n ++ end ∷ []
one_digit n end less = ap (λ ds. ds ++ end ∷ []) (sym (decimal_digit n less))

pub pair_digits : (n end d e : ℕ) → 10 ≤ n → n < 100 → d ∷ e ∷ [] ≡ (48 + n / 10) ∷ (48 + n % 10) ∷ [] → d ∷ e ∷ end ∷ [] ≡ decimal n ++ end ∷ []
pair_digits n end d e more less is =
    let digits : decimal n ≡ (48 + n / 10) ∷ (48 + n % 10) ∷ [] = decimal_step n more (omega arith) ∙ ap (λ ds. ds ++ (48 + n % 10) ∷ []) (decimal_digit (n / 10) (omega arith)) in
    ap (λ ds. ds ++ end ∷ []) (is ∙ sym digits)

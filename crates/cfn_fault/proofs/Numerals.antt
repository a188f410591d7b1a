-- A word is a numeral exactly where it is the decimal form of a number that is at most the greatest.
use Rattle.std.proofs.Common.{◌≡◌, ℕ, zero, suc, ◌<◌, ◌≤◌, ◌^◌, Bool, true, false, List, [], ◌∷◌, length, get_or, refl, sym, ap, ◌∙◌, arith, rules, inl, inr, lit<}
use Rattle.std.proofs.lemmas.Bool.{le-ltb, ltb-false, ne_eqb, not-true, and_parts, eqb-false}
use Rattle.std.proofs.lemmas.Fmt.{digits_decimal, digits_value-decimal, decimal-digits_value, decimal_nonempty, first_decimal, decimal_digit}
use Rattle.std.proofs.lemmas.Str.Parse.{IsNumeralModel, numerals_by_fold}
use Rattle.std.specs.Prelude.{Option, Some, None, decimal, not, ◌&&◌, ◌==◌, ◌⊎◌, if◌then◌else◌, nat_lt}
use Rattle.std.specs.List.{list_all}
use Rattle.cfn_model.specs.Words.{is_digit, digits_behind, greatest}
use Rattle.cfn_fault.specs.Decoding.{has_one_form, numeral}

pub own : IsNumeralModel (λ ds. list_all is_digit ds ≡ true) (digits_behind 0)
own = numerals_by_fold _ (search rules) digits_behind (search rules)

small : (n : ℕ) → n ≤ greatest → n < 2 ^ 64
small n h = omega arith

pub decimal_digits : (n : ℕ) → n ≤ greatest → list_all is_digit (decimal n) ≡ true
decimal_digits n h = digits_decimal own n (small n h)

pub decimal_value : (n : ℕ) → n ≤ greatest → digits_behind 0 (decimal n) ≡ n
decimal_value n h = digits_value-decimal own n (small n h)

one_form : (word : List ℕ) → 0 < length word → 48 < get_or word 0 0 → has_one_form word ≡ true
one_form [] some first = absurd (omega arith)
one_form (b ∷ []) some first = refl
one_form (b ∷ c ∷ word) some first = let ne : b ≡ 48 → ⊥ = λ e. absurd (omega arith) in ap not (ne_eqb b 48 ne)

decimal_one_form : (n : ℕ) → n ≤ greatest → has_one_form (decimal n) ≡ true
decimal_one_form zero h = rw (decimal_digit 0 (lit< tt)) refl
decimal_one_form (suc n) h = one_form (decimal (suc n)) (decimal_nonempty (suc n) (small (suc n) h)) (first_decimal (suc n) (omega arith) (small (suc n) h))

pub numeral_of_decimal : (n : ℕ) → n ≤ greatest → numeral (decimal n) ≡ Some n
unfolding numeral
numeral_of_decimal n h = rw (decimal_one_form n h, decimal_digits n h, decimal_value n h, le-ltb greatest n h) refl

pub record IsNumeral (word : List ℕ) (n : ℕ) : Type 0 where
  pub spells : word ≡ decimal n
  pub small : n ≤ greatest

-- what a test chose, where it gave a value
pub chose : {A : Type 0} (test : Bool) (x : Option A) (v : A) → (if test then x else None) ≡ Some v → (test ≡ true) × (x ≡ Some v)
chose true x v e = (refl, e)
chose false x v e = absurd cc

pub chose_other : {A : Type 0} (test : Bool) (x : Option A) (v : A) → (if test then None else x) ≡ Some v → (test ≡ false) × (x ≡ Some v)
chose_other true x v e = absurd cc
chose_other false x v e = (refl, e)

pub chose_either : {A : Type 0} (test : Bool) (x y : Option A) (v : A) → (if test then x else y) ≡ Some v → ((test ≡ true) × (x ≡ Some v)) ⊎ ((test ≡ false) × (y ≡ Some v))
chose_either true x y v e = inl (refl, e)
chose_either false x y v e = inr (refl, e)

some_byte : (word : List ℕ) → has_one_form word ≡ true → 0 < length word
some_byte [] e = absurd cc
some_byte (b ∷ word) e = omega arith

lead_alone : (word : List ℕ) → has_one_form word ≡ true → get_or word 0 0 ≡ 48 → length word ≡ 1
lead_alone [] e first = absurd cc
lead_alone (b ∷ []) e first = refl
lead_alone (b ∷ c ∷ word) e first = absurd (eqb-false b 48 (not-true (b == 48) e) first)

pub numeral_is : (word : List ℕ) (n : ℕ) → numeral word ≡ Some n → IsNumeral word n
unfolding numeral
numeral_is word n e =
    let tests = chose (has_one_form word && list_all is_digit word) (if nat_lt greatest (digits_behind 0 word) then None else Some (digits_behind 0 word)) n e in
    let parts = and_parts (has_one_form word) (list_all is_digit word) tests.0 in
    let few = chose_other (nat_lt greatest (digits_behind 0 word)) (Some (digits_behind 0 word)) n tests.1 in
    let le : digits_behind 0 word ≤ greatest = ltb-false greatest (digits_behind 0 word) few.0 in
    let is : digits_behind 0 word ≡ n = cc in
    record {
      spells = sym (decimal-digits_value own word parts.1 (some_byte word parts.0) (lead_alone word parts.0) (small (digits_behind 0 word) le)) ∙ ap decimal is;
      small = omega arith;
    }

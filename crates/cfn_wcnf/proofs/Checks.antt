-- What the checks of a literal say.
use Rattle.std.proofs.Common.{◌≡◌, ℕ, suc, ◌+◌, ◌<◌, ◌≤◌, Bool, true, false, cond, List, length, Some, None, refl, sym, ap, ◌∙◌, arith, ℤ}
use Rattle.std.specs.Prelude.{nat_lt, unsigned_abs}
use Rattle.std.proofs.lemmas.Bool.{lt-ltb, le-ltb, ltb-false}
use Rattle.cfn_model.specs.declared.reading.Kind.{Kind}
use Rattle.cfn_model.specs.declared.reading.Kind.TheVariants.{VariableOutOfRange, TableTooWide}
use Rattle.cfn_wcnf.specs.declared.clause.TheConstants.{MOST_CLAUSE_VARIABLES}
use Rattle.cfn_wcnf.specs.declared.clause.Occurrence.{Occurrence}
use Rattle.cfn_wcnf.specs.Clauses.{with_literal, variable_of, polarity_of}
use Rattle.cfn_wcnf.specs.Partial.{stands}
use Rattle.cfn_wcnf.specs.Reading.{check_literal}
use Rattle.cfn_wcnf.proofs.Occurrences.{more}

in_range : (n : ℕ) (os : List Occurrence) (z : ℤ) → unsigned_abs z ≤ n → check_literal n os z ≡ cond (nat_lt MOST_CLAUSE_VARIABLES (length (with_literal os z))) (Some TableTooWide) None
in_range n os z le = rw (le-ltb n (unsigned_abs z) le) refl

pub wide : (n : ℕ) (os : List Occurrence) (z : ℤ) → unsigned_abs z ≤ n → MOST_CLAUSE_VARIABLES ≤ length os → stands (variable_of z) os ≡ false → Some TableTooWide ≡ check_literal n os z
wide n os z le full s =
    let m : length (with_literal os z) ≡ suc (length os) = more (variable_of z) (polarity_of z) os ∙ ap (λ b. cond b (length os) (suc (length os))) s in
    sym (in_range n os z le ∙ rw (lt-ltb MOST_CLAUSE_VARIABLES (length (with_literal os z)) (omega arith)) refl)

fits : (n : ℕ) (os : List Occurrence) (z : ℤ) → unsigned_abs z ≤ n → length (with_literal os z) ≤ MOST_CLAUSE_VARIABLES → None ≡ check_literal n os z
fits n os z le few = sym (in_range n os z le ∙ rw (le-ltb MOST_CLAUSE_VARIABLES (length (with_literal os z)) few) refl)

pub known : (n : ℕ) (os : List Occurrence) (z : ℤ) → unsigned_abs z ≤ n → length os ≤ MOST_CLAUSE_VARIABLES → stands (variable_of z) os ≡ true → None ≡ check_literal n os z
known n os z le few s =
    let m : length (with_literal os z) ≡ length os = more (variable_of z) (polarity_of z) os ∙ ap (λ b. cond b (length os) (suc (length os))) s in
    fits n os z le (omega arith)

one_more : (b : Bool) (n : ℕ) → cond b n (suc n) ≤ n + 1
one_more true n = omega arith
one_more false n = omega arith

pub room : (n : ℕ) (os : List Occurrence) (z : ℤ) → unsigned_abs z ≤ n → length os < MOST_CLAUSE_VARIABLES → None ≡ check_literal n os z
room n os z le few = fits n os z le (omega (arith, more (variable_of z) (polarity_of z) os, one_more (stands (variable_of z) os) (length os)))

none_failed : (a b : Bool) (k l : Kind) → cond a (Some k) (cond b (Some l) None) ≡ None → (a ≡ false) × (b ≡ false)
none_failed true b k l e = absurd cc
none_failed false true k l e = absurd cc
none_failed false false k l e = (refl, refl)

-- a literal that passes the checks
pub record Passes (n : ℕ) (os : List Occurrence) (z : ℤ) : Type 0 where
  pub range : unsigned_abs z ≤ n
  pub few : length (with_literal os z) ≤ MOST_CLAUSE_VARIABLES

pub passes : (n : ℕ) (os : List Occurrence) (z : ℤ) → check_literal n os z ≡ None → Passes n os z
passes n os z e =
    let h = none_failed (nat_lt n (unsigned_abs z)) (nat_lt MOST_CLAUSE_VARIABLES (length (with_literal os z))) VariableOutOfRange TableTooWide e in
    record { range = ltb-false n (unsigned_abs z) h.0; few = ltb-false MOST_CLAUSE_VARIABLES (length (with_literal os z)) h.1 }

-- The last row.
use Rattle.std.proofs.Common.{◌≡◌, ℕ, zero, suc, ◌-◌, ◌<◌, List, [], ◌∷◌, length, get_or, refl, sym, ap, ◌∙◌, arith, if◌then◌else◌, ◌==◌, true, false, Bool}
use Rattle.cfn_model.specs.declared.report.Row.{Row}
use Rattle.cfn_machine.specs.Steps.{is_last, is_same_upper}

abbrev same_row : Row → Row → Bool
same_row row last = if row.lower == last.lower then is_same_upper row.upper last.upper else false

last_at : (row d : Row) (rows : List Row) (place : ℕ) → suc place ≡ length rows → is_last row rows ≡ same_row row (get_or rows place d)
last_at row d [] place len = absurd (omega (arith, len))
last_at row d (last ∷ []) zero len = refl
last_at row d (last ∷ []) (suc place) len = absurd (omega (arith, len))
last_at row d (other ∷ (next ∷ rows)) zero len = absurd (omega (arith, len))
last_at row d (other ∷ (next ∷ rows)) (suc place) len = last_at row d (next ∷ rows) place (omega (arith, len))

pub last_is : (row last : Row) (rows : List Row) → 0 < length rows → ((d : Row) → last ≡ get_or rows (length rows - 1) d) → is_last row rows ≡ same_row row last
last_is row last rows some is = last_at row last rows (length rows - 1) (omega (arith, some)) ∙ ap (same_row row) (sym (is last))

test_true : (b c : Bool) → b ≡ true → (if b then c else false) ≡ c
test_true true c h = refl
test_true false c h = absurd (cc)

test_false : (b c : Bool) → b ≡ false → (if b then c else false) ≡ b
test_false true c h = absurd (cc)
test_false false c h = refl

pub same_lower : (row last : Row) → (row.lower == last.lower) ≡ true → same_row row last ≡ is_same_upper row.upper last.upper
same_lower row last h = test_true (row.lower == last.lower) (is_same_upper row.upper last.upper) h

pub other_lower : (row last : Row) → (row.lower == last.lower) ≡ false → same_row row last ≡ (row.lower == last.lower)
other_lower row last h = test_false (row.lower == last.lower) (is_same_upper row.upper last.upper) h

-- Decimal digits as a number: it grows with each digit, so a number above the greatest stays above it.
use Rattle.std.proofs.Common.{◌≡◌, ℕ, ◌+◌, ◌-◌, ◌*◌, ◌<◌, ◌≤◌, List, [], ◌∷◌, length, drop, get_or, ap, arith}
use Rattle.std.proofs.lemmas.List.{drop_more}
use Rattle.cfn_model.specs.Words.{digits_behind, greatest}

pub grows : (n : ℕ) (digits : List ℕ) → n ≤ digits_behind n digits
grows n [] = omega arith
grows n (b ∷ digits) = omega (arith, grows (10 * n + (b - 48)) digits)

-- one more digit of those that are left
pub one_more : (n i : ℕ) (digits : List ℕ) → i < length digits → digits_behind n (drop i digits) ≡ digits_behind (10 * n + (get_or digits i 0 - 48)) (drop (i + 1) digits)
one_more n i digits lt = ap (digits_behind n) (drop_more digits i 0 lt)

-- where the number passes the greatest, so does the whole
pub too_large : (n d i total : ℕ) (digits : List ℕ) → i < length digits → get_or digits i 0 - 48 ≡ d → digits_behind n (drop i digits) ≡ total → greatest < 10 * n + d → greatest < total
too_large n d i total digits lt is so_far over =
    let step = one_more n i digits lt in
    let more = grows (10 * n + (get_or digits i 0 - 48)) (drop (i + 1) digits) in
    omega (arith, step, more, is, so_far)

-- A few rows, as theorems that compute.
use Rattle.std.proofs.Common.{◌≡◌, ℕ, List, [], ◌∷◌, refl}
use Rattle.cfn_rows.specs.Jagged.{row_at, ends_from, rows_of, with_row}

abbrev three_rows : List (List ℕ)
three_rows = (7 ∷ 1 ∷ []) ∷ [] ∷ (2 ∷ 8 ∷ 9 ∷ []) ∷ []

pub their_ends : ends_from 0 (2 ∷ 0 ∷ 3 ∷ []) ≡ 2 ∷ 2 ∷ 5 ∷ []
their_ends = refl

pub cut_at_them : rows_of (7 ∷ 1 ∷ 2 ∷ 8 ∷ 9 ∷ []) (0 ∷ 2 ∷ 2 ∷ 5 ∷ []) ≡ three_rows
cut_at_them = refl

pub none_past_the_end : row_at three_rows 3 ≡ []
none_past_the_end = refl

pub first_is_written : with_row three_rows 0 (4 ∷ 5 ∷ []) ≡ (4 ∷ 5 ∷ []) ∷ [] ∷ (2 ∷ 8 ∷ 9 ∷ []) ∷ []
first_is_written = refl

pub last_is_written : with_row three_rows 2 (4 ∷ 5 ∷ 6 ∷ []) ≡ (7 ∷ 1 ∷ []) ∷ [] ∷ (4 ∷ 5 ∷ 6 ∷ []) ∷ []
last_is_written = refl

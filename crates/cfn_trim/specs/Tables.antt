-- Numbers for the values of a network's variables.
use Rattle.std.specs.Prelude.{◌≡◌, ℕ, ◌<◌, List, length, slice_index}
use Rattle.cfn_model.specs.Network.{Network}
use Rattle.cfn_rows.specs.Jagged.{row_at}

-- There is a number for each value of each variable.
pub record HasShape (P : Network) (rows : List (List ℕ)) : Type 0 where
  pub variables : length rows ≡ length P.sizes
  pub values : (x : ℕ) → x < length P.sizes → length (row_at rows x) ≡ slice_index P.sizes x

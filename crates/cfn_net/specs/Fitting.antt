-- Which value of an assignment is the first out of range.
use Rattle.std.specs.Prelude.{◌≡◌, ℕ, ◌<◌, ◌≤◌, List, length, slice_index}

-- There is a value for each variable, and x is the least variable whose value is out of range.
pub record IsFirstMisfit (sizes values : List ℕ) (x : ℕ) : Type 0 where
  pub lengths : length values ≡ length sizes
  pub variable : x < length sizes
  pub out : slice_index sizes x ≤ slice_index values x
  pub before : (y : ℕ) → y < x → slice_index values y < slice_index sizes y

-- What changes in the costs and live values of one variable.
use Rattle.std.specs.Prelude.{◌≡◌, ℕ, ◌+◌, ◌<◌, List, length, slice_index, slice_index_or, ℤ, pos, ◌+ℤ◌}

-- The second costs are the first ones with what is gained.
pub record Gains (gain : ℕ → ℤ) (old new : List ℤ) : Type 0 where
  pub size : length new ≡ length old
  pub each : (b : ℕ) → b < length old → slice_index_or new b (pos 0) ≡ (gain b +ℤ slice_index_or old b (pos 0))

-- The second numbers are the first ones with how often each value is taken.
pub record Takes (times : ℕ → ℕ) (old new : List ℕ) : Type 0 where
  pub size : length new ≡ length old
  pub each : (b : ℕ) → b < length old → slice_index new b ≡ times b + slice_index old b

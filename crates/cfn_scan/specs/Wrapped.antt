-- Integers modulo 2^64.
use Rattle.std.specs.Prelude.{◌≡◌, ℕ, ◌+◌, ◌*◌, ◌^◌, ℤ, pos, ◌+ℤ◌}

-- A number stands for an integer that differs from it by a multiple of 2^64.
pub record StandsFor (word : ℕ) (z : ℤ) : Type 0 where
  pub above : ℕ
  pub below : ℕ
  pub is : z +ℤ pos (above * 2 ^ 64) ≡ pos (word + below * 2 ^ 64)

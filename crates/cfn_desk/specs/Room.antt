-- Bytes in room that never grows.
use Rattle.std.specs.Prelude.{ℕ, List}

-- the bytes, and how many there may be
pub record Bounded : Type 0 where
  pub bytes : List ℕ
  pub limit : ℕ

-- The sum of what was shifted along a tuple.
use Rattle.std.specs.Prelude.{ℕ, ◌+◌, ◌^◌, List, [], ◌∷◌, ℤ, pos, neg_ℤ, ◌+ℤ◌, ◌≤ℤ◌}

-- The sum of the numbers along a tuple, where the first place has its slots from a number on.
abbrev pub along : (ℕ → ℤ) → ℕ → List ℕ → List ℕ → ℤ
along at start [] tuple = pos 0
along at start (size ∷ sizes) [] = pos 0
along at start (size ∷ sizes) (a ∷ tuple) = at (start + a) +ℤ along at (start + size) sizes tuple

-- A number between -2^104 and 2^104, of which 2^20 leave room in 128 bits.
pub record IsSlight (z : ℤ) : Type 0 where
  pub low : neg_ℤ (pos (2 ^ 104)) ≤ℤ z
  pub high : z ≤ℤ pos (2 ^ 104)

-- Numbers that are marked.
use Rattle.std.specs.Prelude.{◌≡◌, ℕ, ◌≤◌, ◌==◌, Bool, List, slice_index}

-- A stamp for each number, and the stamp of those that are marked.
pub record Marked : Type 0 where
  pub stamps : List ℕ
  pub sweep : ℕ

abbrev pub is_marked : Marked → ℕ → Bool
is_marked marks k = slice_index marks.stamps k == marks.sweep

-- No number is above another one.
abbrev pub AreUpTo : List ℕ → ℕ → Type 0
AreUpTo items n = (k : ℕ) → slice_index items k ≤ n

-- All but one number are marked as they were.
abbrev pub IsElseSame : Marked → Marked → ℕ → Type 0
IsElseSame old new k = (j : ℕ) → (j ≡ k → ⊥) → is_marked new j ≡ is_marked old j

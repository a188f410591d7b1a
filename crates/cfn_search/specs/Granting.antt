-- How many nodes and backtracks a dive may make.
use Rattle.std.specs.Prelude.{ℕ, ◌≤◌, ◌*◌, ◌/◌, min, max, Bool, if◌then◌else◌}

-- Twice as many backtracks after a dive that left leaves open, and half as many after one that left none.
abbrev pub limit_after : ℕ → Bool → ℕ
limit_after limit left = if left then min (2 * limit) 128 else max (limit / 2) 16

-- One node for the root; else 64 for each backtrack, and at least four for each variable while no assignment is known.
abbrev pub wanted : Bool → Bool → ℕ → ℕ → ℕ
wanted is_root known limit variables = if is_root then 1 else (if known then 64 * limit else max (64 * limit) (4 * variables))

-- A dive may make 16 to 128 backtracks.
abbrev pub IsLimit : ℕ → Type 0
IsLimit limit = (16 ≤ limit) × (limit ≤ 128)

-- What is kept of an assignment.
use Rattle.std.specs.Prelude.{◌≡◌, ◌⊎◌, ℕ, ◌<◌, ◌≤◌, List, length, slice_index, Option, Some, None, Vec}
use Rattle.std.specs.Global.{Global}
use Rattle.cfn_model.specs.Network.{Network, Fits, cost}
use Rattle.cfn_model.specs.Certificate.{Solution}

-- Values fit, and cost less than the upper bound.
abbrev pub AreFit : Network → List ℕ → Type 0
AreFit P values = Fits P.sizes values × (cost P values < P.upper)

-- What is kept of values: they with their cost, where they are so, and else nothing.
abbrev pub IsKeptValues : Network → List ℕ → Option Solution → Type 0
IsKeptValues P values kept = (AreFit P values × (kept ≡ Some (record { cost = cost P values; values = values }))) ⊎ ((AreFit P values → ⊥) × (kept ≡ None))

-- And of an assignment, whatever its cost was.
abbrev pub IsKeptBest : Network → Option Solution → Option Solution → Type 0
IsKeptBest P None kept = kept ≡ None
IsKeptBest P (Some best) kept = IsKeptValues P best.values kept

-- Values in 32 bits, or one is 2^32 or more.
abbrev pub IsNarrow : List ℕ → Option (Vec ℕ Global) → Type 0
IsNarrow values None = (x : ℕ) × (x < length values) × (4294967296 ≤ slice_index values x)
IsNarrow values (Some narrow) = narrow.items ≡ values

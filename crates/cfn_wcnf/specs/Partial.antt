-- A clause that is being read.
use Rattle.std.specs.Prelude.{ℕ, suc, ◌<◌, ◌≤◌, Bool, false, List, [], ◌∷◌, length, if◌then◌else◌, ◌==◌, nat_le}
use Rattle.std.specs.List.{position_or_len}
use Rattle.cfn_wcnf.specs.declared.clause.TheConstants.{MOST_CLAUSE_VARIABLES}
use Rattle.cfn_wcnf.specs.declared.clause.Occurrence.{Occurrence}

-- The number of all variables, and those of the clause so far with their polarities.
pub record Partial : Type 0 where
  pub variables : ℕ
  pub occurrences : List Occurrence

-- Variables below n that increase from low on.
abbrev pub Increases : ℕ → ℕ → List Occurrence → Type 0
Increases n low [] = Unit {0}
Increases n low (o ∷ os) = (low ≤ o.variable) × (o.variable < n) × Increases n (suc o.variable) os

-- What a clause keeps: different variables in increasing order, at most 22 of them.
pub record Keeps (n : ℕ) (os : List Occurrence) : Type 0 where
  pub increases : Increases n 0 os
  pub few : length os ≤ MOST_CLAUSE_VARIABLES

-- Where a variable stands among others that increase, or would stand, and whether it stands there.
abbrev pub place_of : ℕ → List Occurrence → ℕ
place_of x os = position_or_len (λ o. nat_le x o.variable) os

abbrev pub stands : ℕ → List Occurrence → Bool
stands x [] = false
stands x (o ∷ os) = if nat_le x o.variable then o.variable == x else stands x os

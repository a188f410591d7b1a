-- What holds within a pass over the variables.
use Rattle.std.specs.Prelude.{◌≡◌, ℕ, ◌*◌, ◌<◌, ◌≤◌, ◌⊎◌, List, Option, Some, None}
use Rattle.cfn_store.specs.Standing.{Standing}
use Rattle.cfn_branch.specs.declared.choosing.Score.{Score}
use Rattle.cfn_branch.specs.declared.choosing.Candidate.{Candidate}
use Rattle.cfn_branch.specs.Choosing.{choices, IsOpen, degree, HasScore, IsBetter, ComesBefore}

-- The first of the best so far and a variable behind it.
abbrev pub IsFirstOf : Option Candidate → Candidate → Candidate → Type 0
IsFirstOf None next result = result ≡ next
IsFirstOf (Some best) next result = (IsBetter next.score best.score × (result ≡ next)) ⊎ ((IsBetter next.score best.score → ⊥) × (result ≡ best))

-- The same, where the variable is open: its score was asked for, or its ratio alone is greater than the best's.
abbrev pub IsFirstOfOpen : Standing → List ℕ → Option Candidate → ℕ → Candidate → Type 0
IsFirstOfOpen s weights best x result =
    ((p : Score) × HasScore s weights x p × IsFirstOf best (record { variable = x; score = p }) result)
    ⊎ ((old : Candidate) × (best ≡ Some old) × (result ≡ old) × (old.score.count * degree s weights x < choices s x * old.score.degree))

-- None of the variables below n is open.
pub record NoneYet (s : Standing) (n : ℕ) : Type 0 where
  pub none : (y : ℕ) → y < n → choices s y ≤ 1

-- Of the variables below n, no open one comes before this one.
pub record BestYet (s : Standing) (weights : List ℕ) (n : ℕ) (best : Candidate) : Type 0 where
  pub below : best.variable < n
  pub undecided : IsOpen s best.variable
  pub is : HasScore s weights best.variable best.score
  pub first : (y : ℕ) (other : Score) → y < n → IsOpen s y → HasScore s weights y other → ComesBefore other y best.score best.variable → ⊥

-- Of the best so far and a variable behind it the one with fewer live values, or of as many the best so far.
abbrev pub IsFewerOf : Standing → Option ℕ → ℕ → ℕ → Type 0
IsFewerOf s None next result = result ≡ next
IsFewerOf s (Some best) next result = ((choices s next < choices s best) × (result ≡ next)) ⊎ ((choices s best ≤ choices s next) × (result ≡ best))

-- Of the variables below n, no open one has fewer live values than this one, and none before it as few.
pub record FewestYet (s : Standing) (n best : ℕ) : Type 0 where
  pub below : best < n
  pub undecided : IsOpen s best
  pub fewest : (y : ℕ) → y < n → IsOpen s y → choices s best ≤ choices s y
  pub first : (y : ℕ) → y < n → IsOpen s y → choices s y ≡ choices s best → best ≤ y

-- Which variable a split names by the fewest live values (Haralick and Elliott 1980), and how it halves them.
use Rattle.std.specs.Prelude.{◌≡◌, ℕ, ◌+◌, ◌/◌, ◌<◌, ◌≤◌}
use Rattle.cfn_model.specs.declared.step.Decision.{Decision}
use Rattle.cfn_model.specs.declared.step.Decision.TheVariants.{Is, Most}
use Rattle.cfn_rows.specs.Sets.{live_below}
use Rattle.cfn_store.specs.Standing.{Standing, history}
use Rattle.cfn_branch.specs.declared.fewest.TheConstants.{HALVED_FROM}
use Rattle.cfn_branch.specs.Choosing.{choices, IsOpen, IsChoice, IsCheapest}

-- x is open, no open variable has fewer live values, and none before x has as few.
pub record IsFewest (s : Standing) (x : ℕ) : Type 0 where
  pub undecided : IsOpen s x
  pub fewest : (y : ℕ) → IsOpen s y → choices s x ≤ choices s y
  pub first : (y : ℕ) → IsOpen s y → choices s y ≡ choices s x → x ≤ y

-- One half of a number, rounded down.
abbrev pub half_of : ℕ → ℕ
half_of n = n / 2

-- v is a live value of x, and one half of the live values of x are at most v.
pub record IsMiddle (s : Standing) (x v : ℕ) : Type 0 where
  pub choice : IsChoice s x v
  pub half : live_below (history s) x (v + 1) ≡ half_of (choices s x)

-- A variable of the fewest live values is its cheapest value, or at most its middle value where it has many.
abbrev pub IsFewestSplit : Standing → Decision → Type 0
IsFewestSplit s (Is x a) = IsFewest s x × (choices s x < HALVED_FROM) × IsCheapest s x a
IsFewestSplit s (Most x v) = IsFewest s x × (HALVED_FROM ≤ choices s x) × IsMiddle s x v

-- A decision that splits a store.
use Rattle.std.specs.Prelude.{ℕ, ◌<◌, ◌≤◌, length, IsTrue}
use Rattle.cfn_model.specs.declared.step.Decision.{Decision}
use Rattle.cfn_model.specs.declared.step.Decision.TheVariants.{Is, Most}
use Rattle.cfn_model.specs.Sums.{is_live}
use Rattle.cfn_model.specs.Steps.{IsValue}
use Rattle.cfn_rows.specs.Sets.{live_count}
use Rattle.cfn_store.specs.Standing.{Standing, history}
use Rattle.cfn_store.specs.Rooms.{sets_of}

-- Each variable has at most one live value.
abbrev pub AllDecided : Standing → Type 0
AllDecided s = (x : ℕ) → x < length s.network.sizes → live_count (sets_of s) x ≤ 1

-- A live value of x.
pub record IsChoice (s : Standing) (x a : ℕ) : Type 0 where
  pub value : IsValue s.network x a
  pub live : IsTrue (is_live (history s) x a)

-- There is a live value on each side: the one that is named is live, and the variable has another one; or one is at most the
-- number that is named, and one is above it.
abbrev pub IsSplit : Standing → Decision → Type 0
IsSplit s (Is x a) = IsChoice s x a × (2 ≤ live_count (sets_of s) x)
IsSplit s (Most x v) = ((a : ℕ) × IsChoice s x a × (a ≤ v)) × ((a : ℕ) × IsChoice s x a × (v < a))

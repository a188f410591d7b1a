-- What is banned.
use Rattle.std.specs.Prelude.{◌≡◌, ℕ, ◌<◌, Bool, false, List, length, slice_index, slice_index_or, ◌+◌, IsTrue, IsFalse}
use Rattle.cfn_model.specs.Network.{Network, arity, dims_at}
use Rattle.cfn_model.specs.Steps.{IsValue, IsPlace}
use Rattle.cfn_rows.specs.Jagged.{row_at}
use Rattle.cfn_scan.specs.Shifts.{offset}
use Rattle.cfn_consistency.specs.Virtual.{Bans}

-- Flags: a row for each variable, with one for each value; and a row for each function, with one for each value of each place,
-- the places one behind another.
pub record Banning : Type 0 where
  pub network : Network
  pub own : List (List Bool)
  pub by : List (List Bool)

abbrev pub flag_at : List (List Bool) → ℕ → ℕ → Bool
flag_at rows r i = slice_index_or (row_at rows r) i false

-- What they ban.
abbrev pub bans_of : Banning → Bans
bans_of s = record { own = λ x a. flag_at s.own x a; by = λ f i a. flag_at s.by f (offset (dims_at s.network f) i + a) }

-- Nothing is banned.
pub record NoneBanned (P : Network) (bans : Bans) : Type 0 where
  pub own : (x a : ℕ) → IsValue P x a → IsFalse (bans.own x a)
  pub by : (f i a : ℕ) → IsPlace P f i a → IsFalse (bans.by f i a)

-- The unary cost of the value a of x is banned, and what else is banned is so already.
pub record IsBannedOwn (P : Network) (old new : Bans) (x a : ℕ) : Type 0 where
  pub banned : IsTrue (new.own x a)
  pub own : (y b : ℕ) → IsValue P y b → ((y ≡ x) × (b ≡ a) → ⊥) → new.own y b ≡ old.own y b
  pub by : (g j b : ℕ) → new.by g j b ≡ old.by g j b

-- The function f is banned at the value a of place i.
pub record IsBannedBy (P : Network) (old new : Bans) (f i a : ℕ) : Type 0 where
  pub banned : IsTrue (new.by f i a)
  pub own : (y b : ℕ) → new.own y b ≡ old.own y b
  pub by : (g j b : ℕ) → IsPlace P g j b → ((g ≡ f) × (j ≡ i) × (b ≡ a) → ⊥) → new.by g j b ≡ old.by g j b

-- There is a flag for each.
pub record HasFlags (s : Banning) : Type 0 where
  pub variables : length s.own ≡ length s.network.sizes
  pub values : (x : ℕ) → x < length s.network.sizes → length (row_at s.own x) ≡ slice_index s.network.sizes x
  pub functions : length s.by ≡ length s.network.functions
  pub places : (f : ℕ) → f < length s.network.functions → length (row_at s.by f) ≡ offset (dims_at s.network f) (arity s.network f)

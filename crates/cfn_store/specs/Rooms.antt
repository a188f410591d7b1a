-- The greatest amounts that steps take: those that are allowed, have a spelling, and keep costs below 2^64.
use Rattle.std.specs.Prelude.{◌≡◌, ℕ, ◌≤◌, ◌-◌, ◌^◌, List, slice_index, pos, ◌+ℤ◌, ◌<ℤ◌, IsTrue, IsFalse}
use Rattle.cfn_model.specs.declared.limits.TheConstants.{GREATEST}
use Rattle.cfn_model.specs.Network.{Fits, dims_at, variable_at}
use Rattle.cfn_model.specs.Sums.{unary, residual, is_live, is_live_tuple}
use Rattle.cfn_model.specs.Steps.{CanProject, CanExtend, CanLift}
use Rattle.cfn_rows.specs.Sets.{Sets}
use Rattle.cfn_store.specs.Standing.{Standing, history}

-- What a store makes live, as the sets of its variables.
abbrev pub sets_of : Standing → Sets
sets_of s = record { sizes = s.network.sizes; history = history s; spare = s.spare }

-- A live value's unary cost stays below 2^64 with an amount more, and so do the residual costs of the live tuples with it.
abbrev pub UnaryFits : Standing → ℕ → ℕ → ℕ → ℕ → Type 0
UnaryFits s f i a m = IsTrue (is_live (history s) (variable_at s.network f i) a) → (unary s.network (history s) (variable_at s.network f i) a +ℤ pos m) <ℤ pos (2 ^ 64)

abbrev pub ResidualsFit : Standing → ℕ → ℕ → ℕ → ℕ → Type 0
ResidualsFit s f i a m = (tuple : List ℕ) → Fits (dims_at s.network f) tuple → slice_index tuple i ≡ a → IsTrue (is_live_tuple s.network (history s) f tuple) → (residual s.network (history s) f tuple +ℤ pos m) <ℤ pos (2 ^ 64)

-- The greatest amount that can be projected, extended or lifted; 0 where none can.
pub record IsProjectRoom (s : Standing) (f i a room : ℕ) : Type 0 where
  pub spelled : room ≤ GREATEST
  pub enough : CanProject s.network (history s) f i a room
  pub small : UnaryFits s f i a room
  pub most : (m : ℕ) → m ≤ GREATEST → CanProject s.network (history s) f i a m → UnaryFits s f i a m → m ≤ room

pub record IsExtendRoom (s : Standing) (f i a room : ℕ) : Type 0 where
  pub spelled : room ≤ GREATEST
  pub enough : CanExtend s.network (history s) (variable_at s.network f i) a room
  pub small : ResidualsFit s f i a room
  pub most : (m : ℕ) → m ≤ GREATEST → CanExtend s.network (history s) (variable_at s.network f i) a m → ResidualsFit s f i a m → m ≤ room

pub record IsLiftRoom (s : Standing) (x room : ℕ) : Type 0 where
  pub spelled : room ≤ GREATEST
  pub enough : CanLift s.network (history s) x room
  pub most : (m : ℕ) → m ≤ GREATEST → CanLift s.network (history s) x m → m ≤ room

-- An amount is what a live value's unary cost has above it, below 2^64; and what a value has to extend. Of one that is not
-- live it is the greatest that has a spelling.
pub record IsAbove (s : Standing) (x a amount : ℕ) : Type 0 where
  pub live : IsTrue (is_live (history s) x a) → (unary s.network (history s) x a +ℤ pos amount) ≡ pos (2 ^ 64 - 1)
  pub dead : IsFalse (is_live (history s) x a) → amount ≡ GREATEST

pub record IsToExtend (s : Standing) (x a amount : ℕ) : Type 0 where
  pub live : IsTrue (is_live (history s) x a) → unary s.network (history s) x a ≡ pos amount
  pub dead : IsFalse (is_live (history s) x a) → amount ≡ GREATEST

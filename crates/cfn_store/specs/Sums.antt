-- The words that a store keeps, and what they stand for.
use Rattle.std.specs.Prelude.{◌≡◌, ℕ, ◌+◌, ◌-◌, ◌%◌, ◌<◌, ◌^◌, ◌&&◌, List, length, slice_index, slice_set, ℤ, pos, ◌+ℤ◌, ◌==◌}
use Rattle.cfn_model.specs.declared.step.Event.{Event}
use Rattle.cfn_model.specs.Network.{Network, arity, variable_at, dims_at}
use Rattle.cfn_model.specs.Sums.{when, floor, unary}
use Rattle.cfn_model.specs.Steps.{IsValue, IsPlace}
use Rattle.cfn_rows.specs.Jagged.{row_at}
use Rattle.cfn_store.specs.declared.sums.Sums.{Sums}
use Rattle.cfn_scan.specs.Wrapped.{StandsFor}
use Rattle.cfn_scan.specs.Shifts.{shift, offset}

-- Rows with one word larger, or smaller, by an amount, modulo 2^64.
abbrev pub has_word : List (List ℕ) → ℕ → ℕ → ℕ → List (List ℕ)
has_word rows r i word = slice_set rows r (slice_set (row_at rows r) i word)

abbrev pub has_more : List (List ℕ) → ℕ → ℕ → ℕ → List (List ℕ)
has_more rows r i amount = has_word rows r i ((slice_index (row_at rows r) i + amount) % 2 ^ 64)

abbrev pub has_less : List (List ℕ) → ℕ → ℕ → ℕ → List (List ℕ)
has_less rows r i amount = has_word rows r i ((slice_index (row_at rows r) i + (2 ^ 64 - amount)) % 2 ^ 64)

-- The word of what the value a of x was given, of what was lifted from x, and of what was moved away from the tuples of f
-- with the value a at place i.
abbrev pub given_word : Sums → ℕ → ℕ → ℕ
given_word s x a = slice_index (row_at s.given x) a

abbrev pub lifted_word : Sums → ℕ → ℕ
lifted_word s x = slice_index s.lifted.items x

abbrev pub shift_word : Network → Sums → ℕ → ℕ → ℕ → ℕ
shift_word P s f i a = slice_index (row_at s.shifts f) (offset (dims_at P f) i + a)

-- There is a word for each variable, for each of its values, and for each value of each place of each function.
pub record HasShape (P : Network) (s : Sums) : Type 0 where
  pub lifted : length s.lifted.items ≡ length P.sizes
  pub given : length s.given ≡ length P.sizes
  pub given_row : (x : ℕ) → x < length P.sizes → length (row_at s.given x) ≡ slice_index P.sizes x
  pub shifts : length s.shifts ≡ length P.functions
  pub shifts_row : (f : ℕ) → f < length P.functions → length (row_at s.shifts f) ≡ offset (dims_at P f) (arity P f)

-- The words stand for the sums of a history, and the floor is exact.
pub record IsSums (P : Network) (history : List Event) (s : Sums) : Type 0 where
  pub shape : HasShape P s
  pub floor : s.floor ≡ floor P history
  pub unary : (x a : ℕ) → IsValue P x a → StandsFor (given_word s x a) (unary P history x a +ℤ pos (lifted_word s x))
  pub shift : (f i a : ℕ) → IsPlace P f i a → StandsFor (shift_word P s f i a) (shift history f i a)

-- An amount, which may be below 0, is moved from the tuples of f with the value a at place i to that value, and nothing
-- else changes.
pub record Moves (P : Network) (f i a : ℕ) (amount : ℤ) (old new : Sums) : Type 0 where
  pub shape : HasShape P new
  pub floor : new.floor ≡ old.floor
  pub lifted : new.lifted ≡ old.lifted
  pub given : (x b : ℕ) (z : ℤ) → IsValue P x b → StandsFor (given_word old x b) z → StandsFor (given_word new x b) (when ((variable_at P f i == x) && (a == b)) amount +ℤ z)
  pub shift : (g j b : ℕ) (z : ℤ) → IsPlace P g j b → StandsFor (shift_word P old g j b) z → StandsFor (shift_word P new g j b) (when ((f == g) && ((i == j) && (b == a))) amount +ℤ z)

-- An amount is lifted from x to the floor, or back.
pub record Lifts (P : Network) (x : ℕ) (amount : ℤ) (old new : Sums) : Type 0 where
  pub shape : HasShape P new
  pub floor : pos new.floor ≡ amount +ℤ pos old.floor
  pub given : new.given ≡ old.given
  pub shifts : new.shifts ≡ old.shifts
  pub lifted : (y : ℕ) (z : ℤ) → y < length P.sizes → StandsFor (lifted_word old y) z → StandsFor (lifted_word new y) (when (x == y) amount +ℤ z)

-- Sets of live values, one a variable.
use Rattle.std.specs.Prelude.{◌≡◌, ℕ, zero, suc, ◌+◌, ◌-◌, ◌<◌, List, [], ◌∷◌, length, drop, slice_index, IsTrue, if◌then◌else◌}
use Rattle.cfn_model.specs.declared.step.Event.{Event}
use Rattle.cfn_model.specs.Sums.{is_live}

-- The size of each variable's domain, the events that the sets stand for, the newest first, and for how many more events
-- there is room.
pub record Sets : Type 0 where
  pub sizes : List ℕ
  pub history : List Event
  pub spare : ℕ

-- All values are live.
abbrev pub new_sets : List ℕ → Sets
new_sets sizes = record { sizes = sizes; history = []; spare = 0 }

-- One event more, and the newest one less.
abbrev pub with_event : Sets → Event → Sets
with_event s event = record { sizes = s.sizes; history = event ∷ s.history; spare = s.spare - 1 }

abbrev pub without_newest : Sets → Sets
without_newest s = record { sizes = s.sizes; history = drop 1 s.history; spare = s.spare + 1 }

-- x is a variable, and a is one of its values.
pub record IsValue (s : Sets) (x a : ℕ) : Type 0 where
  pub variable : x < length s.sizes
  pub value : a < slice_index s.sizes x

-- How many values of x below a number are live.
abbrev pub live_below : List Event → ℕ → ℕ → ℕ
live_below history x zero = 0
live_below history x (suc a) = (if is_live history x a then 1 else 0) + live_below history x a

abbrev pub live_count : Sets → ℕ → ℕ
live_count s x = live_below s.history x (slice_index s.sizes x)

-- A list has the live values of x, each once.
pub record AreLive (s : Sets) (x : ℕ) (values : List ℕ) : Type 0 where
  pub live : (i : ℕ) → i < length values → IsValue s x (slice_index values i) × IsTrue (is_live s.history x (slice_index values i))
  pub all : (a : ℕ) → IsValue s x a → IsTrue (is_live s.history x a) → (i : ℕ) × (i < length values) × (slice_index values i ≡ a)
  pub once : (i j : ℕ) → i < length values → j < length values → slice_index values i ≡ slice_index values j → i ≡ j
  pub counted : length values ≡ live_count s x

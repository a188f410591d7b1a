-- Open variables, and the functions that take part in making a network consistent (Cooper et al. 2010).
use Rattle.std.specs.Prelude.{◌≡◌, ℕ, zero, suc, ◌+◌, ◌<◌, ◌≤◌, ◌⊎◌, Bool, List, length, slice_index, nat_le, if◌then◌else◌, IsTrue}
use Rattle.cfn_model.specs.declared.step.Event.{Event}
use Rattle.cfn_model.specs.Network.{Network, arity, variable_at, dims_at, cells}
use Rattle.cfn_model.specs.Sums.{is_live}

-- How many numbers below n pass a test.
abbrev pub count_below : (ℕ → Bool) → ℕ → ℕ
count_below test zero = 0
count_below test (suc n) = (if test n then 1 else 0) + count_below test n

-- How many values of x are live.
abbrev pub live_count : Network → List Event → ℕ → ℕ
live_count P history x = count_below (is_live history x) (slice_index P.sizes x)

-- A variable is open where two or more of its values are live.
abbrev pub is_open : Network → List Event → ℕ → Bool
is_open P history x = nat_le 2 (live_count P history x)

-- How many of a function's variables are open.
abbrev pub open_count : Network → List Event → ℕ → ℕ
open_count P history f = count_below (λ i. is_open P history (variable_at P f i)) (arity P f)

-- A function of arity 1 or more is active where at most two of its variables are open.
pub record IsActive (P : Network) (history : List Event) (f : ℕ) : Type 0 where
  pub function : f < length P.functions
  pub some : 0 < arity P f
  pub few : open_count P history f ≤ 2

-- How many tuples a function with more open variables may have, so that it is looked at all the same.
abbrev pub most_tuples_of_wide : ℕ
most_tuples_of_wide = 4096

pub record IsSmall (P : Network) (f : ℕ) : Type 0 where
  pub function : f < length P.functions
  pub some : 0 < arity P f
  pub few : cells (dims_at P f) ≤ most_tuples_of_wide

-- A function takes part in arc consistency where it is active, or small.
abbrev pub TakesPart : Network → List Event → ℕ → Type 0
TakesPart P history f = IsActive P history f ⊎ IsSmall P f

-- The open variables of f are two, and stand at the places i and j.
pub record HasOpenPair (P : Network) (history : List Event) (f i j : ℕ) : Type 0 where
  pub active : IsActive P history f
  pub one : (i < arity P f) × IsTrue (is_open P history (variable_at P f i))
  pub other : (j < arity P f) × IsTrue (is_open P history (variable_at P f j))
  pub different : i ≡ j → ⊥

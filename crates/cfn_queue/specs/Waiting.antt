-- Numbers that wait in a queue.
use Rattle.std.specs.Prelude.{◌≡◌, ℕ, ◌<◌, ◌≤◌, Bool, false, ◌||◌, ◌==◌, List, [], ◌∷◌, ◌++◌, length, slice_index_or, count_by, if◌then◌else◌, IsFalse}

-- The size, below which each number is, and the numbers that wait, the first one first.
pub record Waiting : Type 0 where
  pub size : ℕ
  pub items : List ℕ

abbrev pub new_queue : ℕ → Waiting
new_queue size = record { size = size; items = [] }

-- A number is the first of a list.
abbrev pub IsFirst : List ℕ → ℕ → Type 0
IsFirst items x = (rest : List ℕ) × (items ≡ x ∷ rest)

-- Whether a number is in a list.
abbrev pub is_in : ℕ → List ℕ → Bool
is_in x [] = false
is_in x (y ∷ ys) = (x == y) || is_in x ys

-- A number comes behind those that wait, unless it waits already.
abbrev pub with_item : Waiting → ℕ → Waiting
with_item q x = if is_in x q.items then q else record { size = q.size; items = q.items ++ x ∷ [] }

-- No number stands twice, and each is below the size.
abbrev pub NoRepeats : List ℕ → Type 0
NoRepeats [] = Unit {0}
NoRepeats (x ∷ xs) = IsFalse (is_in x xs) × NoRepeats xs

abbrev pub AreBelow : ℕ → List ℕ → Type 0
AreBelow size [] = Unit {0}
AreBelow size (x ∷ xs) = (x < size) × AreBelow size xs

-- How many flags are set.
abbrev pub set_flags : List Bool → ℕ
set_flags flags = count_by (λ flag. flag) flags

-- A flag for each number says whether it waits, and there is room for all of them.
pub record IsQueue (capacity : ℕ) (flags : List Bool) (items : List ℕ) : Type 0 where
  pub below : AreBelow (length flags) items
  pub once : NoRepeats items
  pub said : (x : ℕ) → x < length flags → slice_index_or flags x false ≡ is_in x items
  pub counted : length items ≡ set_flags flags
  pub room : length flags ≤ capacity

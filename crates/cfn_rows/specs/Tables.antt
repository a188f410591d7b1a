-- What the tables of sparse sets say.
use Rattle.std.specs.Prelude.{◌≡◌, ℕ, ◌<◌, ◌≤◌, nat_lt, List, [], ◌∷◌, length, slice_index, slice_set}
use Rattle.cfn_rows.specs.Jagged.{row_at}
use Rattle.cfn_model.specs.declared.step.Event.{Event}
use Rattle.cfn_model.specs.Sums.{is_live}
use Rattle.cfn_rows.specs.declared.undo.Undo.{Undo}
use Rattle.cfn_rows.specs.Order.{AreInverse}

-- The place of the value a of x.
abbrev pub place_of : List (List ℕ) → ℕ → ℕ → ℕ
place_of places x a = slice_index (row_at places x) a

-- A value is live exactly where its place is below its variable's count.
abbrev pub Says : List (List ℕ) → List ℕ → List Event → Type 0
Says places counts history =
    (x a : ℕ) → x < length places → a < length (row_at places x) → is_live history x a ≡ nat_lt (place_of places x a) (slice_index counts x)

-- An event of a variable took none back, and the count before it was at most the size.
pub record IsUndo (places : List (List ℕ)) (counts : List ℕ) (undo : Undo) : Type 0 where
  pub variable : undo.variable < length places
  pub fewer : slice_index counts undo.variable ≤ undo.count
  pub within : undo.count ≤ length (row_at places undo.variable)

-- The places say what is live after the events, and with the counts before each of them what was live before it.
abbrev pub Traced : List (List ℕ) → List ℕ → List Undo → List Event → Type 0
Traced places counts [] [] = Says places counts []
Traced places counts [] (event ∷ history) = ⊥
Traced places counts (undo ∷ undos) [] = ⊥
Traced places counts (undo ∷ undos) (event ∷ history) =
    Says places counts (event ∷ history)
    × IsUndo places counts undo
    × Traced places (slice_set counts undo.variable undo.count) undos history

-- The order of each variable's values, its count, and what takes the events back, the newest first.
pub record IsTrail (values places : List (List ℕ)) (counts : List ℕ) (undos : List Undo) (history : List Event) : Type 0 where
  pub rows : length values ≡ length places
  pub orders : (x : ℕ) → x < length places → AreInverse (row_at values x) (row_at places x)
  pub counted : length counts ≡ length places
  pub within : (x : ℕ) → x < length places → slice_index counts x ≤ length (row_at places x)
  pub traced : Traced places counts undos history

-- Rows of different lengths in one list (a jagged array).
use Rattle.std.specs.Prelude.{ℕ, zero, suc, ◌+◌, ◌≤◌, List, [], ◌∷◌, ◌++◌, length, take, drop, slice_index_or, slice_range}

-- A row of a list of rows, empty past the end.
abbrev pub row_at : {T : Type 0} → List (List T) → ℕ → List T
row_at rows r = slice_index_or rows r []

-- Where rows of these lengths end, the first of which begins at a place, and each other where the one before it ends.
abbrev pub ends_from : ℕ → List ℕ → List ℕ
ends_from from [] = []
ends_from from (n ∷ lengths) = (from + n) ∷ ends_from (from + n) lengths

-- The rows with these ends.
abbrev pub rows_from : {T : Type 0} → List T → ℕ → List ℕ → List (List T)
rows_from items from [] = []
rows_from items from (end ∷ ends) = slice_range items from end ∷ rows_from items end ends

-- The rows of a list that is cut at these places: the start of each row, and the end of the last.
abbrev pub rows_of : {T : Type 0} → List T → List ℕ → List (List T)
rows_of items [] = []
rows_of items (from ∷ ends) = rows_from items from ends

-- Ends rise from a place to at most a length.
abbrev pub Rises : ℕ → List ℕ → ℕ → Type 0
Rises from [] size = from ≤ size
Rises from (end ∷ ends) size = (from ≤ end) × Rises end ends size

-- There is a place, and the places rise to at most a length.
abbrev pub IsCut : List ℕ → ℕ → Type 0
IsCut [] size = ⊥
IsCut (from ∷ ends) size = Rises from ends size

-- Rows with items written over theirs, from the first place on, as far as the rows go.
abbrev pub written : {T : Type 0} → List (List T) → List T → List (List T)
written [] items = []
written (row ∷ rows) items = take (length row) (items ++ drop (length items) row) ∷ written rows (drop (length row) items)

-- Rows with items written over theirs, from the first place of row r on. Where these are as many as that row has, they are
-- the new row, and each other row is as it was.
abbrev pub with_row : {T : Type 0} → List (List T) → ℕ → List T → List (List T)
with_row [] r items = []
with_row (row ∷ rows) zero items = written (row ∷ rows) items
with_row (row ∷ rows) (suc r) items = row ∷ with_row rows r items

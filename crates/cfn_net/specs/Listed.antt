-- Entries of which few differ from a default, as a list of those that do.
use Rattle.std.specs.Prelude.{ℕ, ◌+◌, ◌*◌, ◌<◌, List, [], ◌∷◌, length, map, slice_index_or, if◌then◌else◌, ◌==◌}
use Rattle.std.specs.List.{range_with_len}

-- How many entries differ from a default.
abbrev pub differing : ℕ → List ℕ → ℕ
differing default [] = 0
differing default (entry ∷ entries) = (if entry == default then 0 else 1) + differing default entries

-- Fewer than one eighth of the entries differ from the default.
abbrev pub AreSparse : ℕ → List ℕ → Type 0
AreSparse default entries = 8 * differing default entries < length entries

-- The entry that is listed for a cell, or the default where none is. A listing is a cell with its entry.
abbrev pub listed_at : ℕ → List (ℕ × ℕ) → ℕ → ℕ
listed_at default [] cell = default
listed_at default (listing ∷ listings) cell = if listing.0 == cell then listing.1 else listed_at default listings cell

-- The entries of so many cells.
abbrev pub spread : ℕ → ℕ → List (ℕ × ℕ) → List ℕ
spread cells default listings = map (listed_at default listings) (range_with_len 0 cells)

-- The cell of a listing.
abbrev pub listed_cell : List (ℕ × ℕ) → ℕ → ℕ
listed_cell listings i = let listing = slice_index_or listings i (0, 0) in listing.0

-- Listings of so many cells, in the order of their numbers and none twice.
pub record AreListings (cells : ℕ) (listings : List (ℕ × ℕ)) : Type 0 where
  pub rising : (i j : ℕ) → i < j → j < length listings → listed_cell listings i < listed_cell listings j
  pub within : (i : ℕ) → i < length listings → listed_cell listings i < cells

-- Rows of a table, of which an amount each was taken off.
use Rattle.std.specs.Prelude.{◌≡◌, ℕ, ◌+◌, ◌%◌, ◌^◌, ◌<◌, ◌≤◌, ◌⊎◌, Option, Some, None, false, List, length, slice_index, slice_index_or}
use Rattle.cfn_scan.specs.declared.rows.Row.{Row}
use Rattle.cfn_scan.specs.declared.rows.Found.{Found}
use Rattle.cfn_scan.specs.Words.{less, IsLeastOf}

-- The difference of the entry and the amount at a place, modulo 2^64.
abbrev pub difference_at : List ℕ → List ℕ → ℕ → ℕ
difference_at entries amounts i = less (slice_index amounts i) (slice_index entries i)

-- A number is the least of the differences.
abbrev pub IsLeastDifference : List ℕ → List ℕ → ℕ → Type 0
IsLeastDifference entries amounts = IsLeastOf (length entries) (difference_at entries amounts)

-- None of the first n entries is below a bound; and a number is the least difference at those that are.
abbrev pub NoneBelow : ℕ → List ℕ → ℕ → Type 0
NoneBelow n entries bound = (i : ℕ) → i < n → bound ≤ slice_index entries i

pub record IsLeastBelow (n : ℕ) (entries amounts : List ℕ) (bound least : ℕ) : Type 0 where
  pub place : ℕ
  pub there : place < n
  pub below : slice_index entries place < bound
  pub is : difference_at entries amounts place ≡ least
  pub most : (i : ℕ) → i < n → slice_index entries i < bound → least ≤ difference_at entries amounts i

-- Each entry of a row has an amount and a flag.
pub record IsRow (row : Row) : Type 0 where
  pub shifted : length row.shifted.now ≡ length row.entries.now
  pub cut : length row.cut.now ≡ length row.entries.now

-- A place of a row is open: its entry is below the bound, and it is not cut.
pub record IsOpenAt (row : Row) (i : ℕ) : Type 0 where
  pub there : i < length row.entries.now
  pub below : slice_index row.entries.now i < row.bound
  pub uncut : slice_index_or row.cut.now i false ≡ false

abbrev pub NoneOpen : ℕ → Row → Type 0
NoneOpen n row = (i : ℕ) → i < n → IsOpenAt row i → ⊥

-- What is left of the entry at a place of a row.
abbrev pub left_at : Row → ℕ → ℕ
left_at row i = less ((row.own + slice_index row.shifted.now i) % 2 ^ 64) (slice_index row.entries.now i)

-- Of the first n places: what was found is left at an open one, is at most what is left at each, and less than what is left at
-- those before it.
pub record IsLeastOpen (n : ℕ) (row : Row) (found : Found) : Type 0 where
  pub within : found.place < n
  pub at : IsOpenAt row found.place
  pub word : left_at row found.place ≡ found.word
  pub most : (i : ℕ) → i < n → IsOpenAt row i → found.word ≤ left_at row i
  pub first : (i : ℕ) → i < found.place → IsOpenAt row i → found.word < left_at row i

-- Of a number, where there is one, and another the lesser.
abbrev pub IsLesser : Option ℕ → ℕ → ℕ → Type 0
IsLesser None word result = result ≡ word
IsLesser (Some least) word result = ((least ≤ word) × (result ≡ least)) ⊎ ((word < least) × (result ≡ word))

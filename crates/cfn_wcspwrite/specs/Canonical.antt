-- The canonical text of a network: the one text in toulbar2's wcsp format (toulbar2 user manual) that lists in each
-- function just the cells whose entry differs from the default, once each and in increasing order.
use Rattle.std.specs.Prelude.{ℕ, ◌/◌, ◌%◌, max, Bool, not, ◌==◌, List, [], ◌∷◌, ◌++◌, length, map, fold, filter, flat_map, slice_index, decimal, cond}
use Rattle.std.specs.List.{range_with_len}
use Rattle.cfn_model.specs.Network.{Function, Network, cells, dims}
use Rattle.cfn_model.specs.Text.{text}

-- The tuple with a number in row-major order, the last variable running fastest.
abbrev pub tuple_of : List ℕ → ℕ → List ℕ
tuple_of [] c = []
tuple_of (size ∷ sizes) c = c / cells sizes ∷ tuple_of sizes (c % cells sizes)

-- The entry at a cell is another than the default.
abbrev pub differs : Function → ℕ → Bool
differs f c = not (slice_index f.entries c == f.default)

-- The cells that are listed.
abbrev pub listed : Function → List ℕ
listed f = filter (differs f) (range_with_len 0 (length f.entries))

-- The line of a cell: its tuple and its entry. A function of arity 0 has no values there.
abbrev pub cell_words : List ℕ → Function → ℕ → List (List ℕ)
cell_words sizes f c = map decimal (tuple_of (dims sizes f.scope) c) ++ decimal (slice_index f.entries c) ∷ []

-- The first line of a function: its arity, its scope, its default, and how many cells are listed.
abbrev pub function_words : Function → List (List ℕ)
function_words f = decimal (length f.scope) ∷ (map decimal f.scope ++ decimal f.default ∷ decimal (length (listed f)) ∷ [])

abbrev pub function_lines : List ℕ → Function → List (List (List ℕ))
function_lines sizes f = function_words f ∷ map (cell_words sizes f) (listed f)

-- The first line: the name, the number of variables, the greatest domain size, the number of functions, the upper bound.
abbrev pub head_words : Network → List (List ℕ)
head_words P = P.name ∷ decimal (length P.sizes) ∷ decimal (fold max 0 P.sizes) ∷ decimal (length P.functions) ∷ decimal P.upper ∷ []

-- The lines of a network: the first, the domain sizes, and those of each function.
abbrev pub canonical_lines : Network → List (List (List ℕ))
canonical_lines P = head_words P ∷ map decimal P.sizes ∷ flat_map (function_lines P.sizes) P.functions

abbrev pub canonical : Network → List ℕ
canonical P = text (canonical_lines P)

-- ---- parts of it

-- Numbers with a space behind each.
abbrev pub spaced : List ℕ → List ℕ
spaced numbers = flat_map (λ n. decimal n ++ 32 ∷ []) numbers

-- The line of a cell, where the cell is listed.
abbrev pub cell_lines : List ℕ → Function → ℕ → List (List (List ℕ))
cell_lines sizes f c = cond (differs f c) (cell_words sizes f c ∷ []) []

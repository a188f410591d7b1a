-- How a network is built, a function at a time.
use Rattle.std.specs.Prelude.{◌≡◌, ℕ, ◌+◌, ◌-◌, ◌<◌, ◌≤◌, min, List, [], ◌∷◌, ◌++◌, length, map, sum_by, slice_index, slice_set}
use Rattle.std.specs.Borrow.{Bor}
use Rattle.cfn_model.specs.declared.limits.TheConstants.{MOST_VARIABLES, MOST_VALUES, MOST_FUNCTIONS, MOST_TUPLES, MOST_CELLS}
use Rattle.cfn_model.specs.Network.{Function, Network, cells, cell, dims, function_of, function_at}

-- Different variables of a network with these domain sizes, with at most 4,194,304 tuples.
pub record IsScope (sizes scope : List ℕ) : Type 0 where
  pub variables : (place : ℕ) → place < length scope → slice_index scope place < length sizes
  pub different : (place other : ℕ) → place < other → other < length scope → slice_index scope place ≡ slice_index scope other → ⊥
  pub few : cells (dims sizes scope) ≤ MOST_TUPLES

-- Domain sizes of a network: 1 to 1,048,576 of them, from 1 to 4,096 each.
pub record AreSizes (sizes : List ℕ) : Type 0 where
  pub some : 0 < length sizes
  pub few : length sizes ≤ MOST_VARIABLES
  pub each : (x : ℕ) → x < length sizes → (0 < slice_index sizes x) × (slice_index sizes x ≤ MOST_VALUES)

-- A network with no functions.
abbrev pub new_network : List ℕ → List ℕ → ℕ → Network
new_network name sizes upper = record { name = name; sizes = sizes; upper = upper; functions = [] }

-- The cells of all functions together.
abbrev pub all_cells : Network → ℕ
all_cells P = sum_by (λ f. cells (dims P.sizes f.scope)) P.functions

-- The network has room for one more function, with this scope.
pub record CanTake (P : Network) (variables : List ℕ) : Type 0 where
  pub scope : IsScope P.sizes variables
  pub few_functions : length P.functions < MOST_FUNCTIONS
  pub few_cells : all_cells P + cells (dims P.sizes variables) ≤ MOST_CELLS

-- The network with a function at the end of its functions.
abbrev pub with_function : Network → Function → Network
with_function P f = record P { functions = P.functions ++ f ∷ [] }

-- The function of a scope, a default and entries.
abbrev pub function : List ℕ → ℕ → List ℕ → Function
function scope default entries = record { scope = scope; default = default; entries = entries }

-- The function of a scope with the default and the entries of an earlier function.
abbrev pub share_of : Network → ℕ → List ℕ → Function
share_of P earlier scope = record (function_at P earlier) { scope = scope }

-- The number of the last function, and the network with another function in its place.
abbrev pub last : Network → ℕ
last P = length P.functions - 1

abbrev pub with_last : Network → Function → Network
with_last P f = record P { functions = slice_set P.functions (last P) f }

-- The function with the entry at a cell written, where a cost above the upper bound counts as the upper bound.
abbrev pub with_entry : ℕ → ℕ → ℕ → Function → Function
with_entry upper c amount f = record f { entries = slice_set f.entries c (min upper amount) }

-- The network with a cost written at a cell of its last function.
abbrev pub list_at_end : Network → ℕ → ℕ → Network
list_at_end P c amount = with_last P (with_entry P.upper c amount (function_at P (last P)))

-- The listings that tuples with their costs are.
abbrev pub listings_of : List (Bor (List ℕ) × ℕ) → List (List ℕ × ℕ)
listings_of listed = map (λ listing. (listing.0.now, listing.1)) listed

-- Writing a listing's cost at its cell is the same as one more listing; writing into the function at the end leaves the
-- network that has the written function there; and so a network whose last function is that of some listings becomes,
-- where a tuple's cost is written, the network whose last function is that of one more listing.
pub record ListingLaw : Type 0 where
  pub entry : (sizes : List ℕ) (upper : ℕ) (scope : List ℕ) (default : ℕ) (listings : List (List ℕ × ℕ)) (listing : List ℕ × ℕ) → with_entry upper (cell (dims sizes scope) listing.0) listing.1 (function_of sizes upper scope default listings) ≡ function_of sizes upper scope default (listings ++ listing ∷ [])
  pub replaced : (P : Network) (f g : Function) → with_last (with_function P f) g ≡ with_function P g
  pub at_end : (P : Network) (f : Function) → function_at (with_function P f) (last (with_function P f)) ≡ f
  pub listed : (P : Network) (scope : List ℕ) (default : ℕ) (listings : List (List ℕ × ℕ)) (listing : List ℕ × ℕ) → list_at_end (with_function P (function_of P.sizes P.upper scope default listings)) (cell (dims P.sizes scope) listing.0) listing.1 ≡ with_function P (function_of P.sizes P.upper scope default (listings ++ listing ∷ []))

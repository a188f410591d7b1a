-- Weighted constraint networks (cost function networks) and the cost of an assignment (toulbar2 user manual, wcsp format).
use Rattle.std.specs.Prelude.{◌≡◌, ℕ, suc, ◌+◌, ◌*◌, ◌<◌, ◌≤◌, min, List, [], ◌∷◌, length, map, sum_by, slice_index, slice_index_or, if◌then◌else◌, ◌==◌}
use Rattle.std.specs.List.{range_with_len}
use Rattle.cfn_model.specs.declared.limits.TheConstants.{MOST_VARIABLES, MOST_VALUES, MOST_FUNCTIONS, MOST_TUPLES, MOST_CELLS}
use Rattle.cfn_model.specs.Words.{IsWord, greatest}

-- A cost function: its scope, its default cost, and its entry at each cell.
pub record Function : Type 0 where
  pub scope : List ℕ
  pub default : ℕ
  pub entries : List ℕ

-- A network: its name, the size of each variable's domain, its upper bound, and its functions.
-- Entries and defaults are at most the upper bound.
pub record Network : Type 0 where
  pub name : List ℕ
  pub sizes : List ℕ
  pub upper : ℕ
  pub functions : List Function

-- Lists of values that fit domains of these sizes, one below each.
abbrev pub Fits : List ℕ → List ℕ → Type 0
Fits [] [] = Unit {0}
Fits [] (value ∷ values) = ⊥
Fits (size ∷ sizes) [] = ⊥
Fits (size ∷ sizes) (value ∷ values) = (value < size) × Fits sizes values

-- How many lists of values fit.
abbrev pub cells : List ℕ → ℕ
cells [] = 1
cells (size ∷ sizes) = size * cells sizes

-- The number of a tuple in row-major order, the last variable running fastest.
abbrev pub cell_from : ℕ → List ℕ → List ℕ → ℕ
cell_from so_far [] values = so_far
cell_from so_far (size ∷ sizes) [] = so_far
cell_from so_far (size ∷ sizes) (value ∷ values) = cell_from (so_far * size + value) sizes values

abbrev pub cell : List ℕ → List ℕ → ℕ
cell sizes values = cell_from 0 sizes values

-- The domain sizes of a scope's variables.
abbrev pub dims : List ℕ → List ℕ → List ℕ
dims sizes scope = map (slice_index sizes) scope

-- What an assignment gives the variables of a scope.
abbrev pub restrict : List ℕ → List ℕ → List ℕ
restrict scope values = map (slice_index values) scope

-- The cost of a tuple.
abbrev pub entry : List ℕ → Function → List ℕ → ℕ
entry sizes f tuple = slice_index f.entries (cell (dims sizes f.scope) tuple)

-- The sum of the entries of all functions at an assignment.
abbrev pub total : Network → List ℕ → ℕ
total P values = sum_by (λ f. entry P.sizes f (restrict f.scope values)) P.functions

-- The cost of an assignment: the total, or the upper bound where that is less.
abbrev pub cost : Network → List ℕ → ℕ
cost P values = min P.upper (total P values)

-- A cost is the least: an assignment has it, it is below the upper bound, and no assignment costs less.
pub record Least (P : Network) (c : ℕ) : Type 0 where
  pub reached : (values : List ℕ) × Fits P.sizes values × (cost P values ≡ c)
  pub below : c < P.upper
  pub bound : (values : List ℕ) → Fits P.sizes values → c ≤ cost P values

-- The cost of the last listing of a cell, or the default where it has none. A listing is a tuple with its cost.
abbrev pub last_listed : List ℕ → ℕ → List (List ℕ × ℕ) → ℕ → ℕ
last_listed sizes default [] c = default
last_listed sizes default (listing ∷ listings) c =
    last_listed sizes (if cell sizes listing.0 == c then listing.1 else default) listings c

-- The function of a default cost and listings, with costs above the upper bound counting as the upper bound.
abbrev pub function_of : List ℕ → ℕ → List ℕ → ℕ → List (List ℕ × ℕ) → Function
function_of sizes upper scope default listings = record {
  scope = scope;
  default = min upper default;
  entries = map (λ c. min upper (last_listed (dims sizes scope) default listings c)) (range_with_len 0 (cells (dims sizes scope)));
}

-- The function with a number, where there is one.
abbrev pub no_function : Function
no_function = record { scope = []; default = 0; entries = [] }

abbrev pub function_at : Network → ℕ → Function
function_at P f = slice_index_or P.functions f no_function

-- A function's variables, their number, one of them, and the domain sizes of all of them.
abbrev pub scope_at : Network → ℕ → List ℕ
scope_at P f = (function_at P f).scope

abbrev pub arity : Network → ℕ → ℕ
arity P f = length (scope_at P f)

abbrev pub variable_at : Network → ℕ → ℕ → ℕ
variable_at P f place = slice_index (scope_at P f) place

abbrev pub dims_at : Network → ℕ → List ℕ
dims_at P f = dims P.sizes (scope_at P f)

abbrev pub entry_at : Network → ℕ → List ℕ → ℕ
entry_at P f tuple = entry P.sizes (function_at P f) tuple

-- The limits that every network keeps.
pub record IsFunction (sizes : List ℕ) (upper : ℕ) (f : Function) : Type 0 where
  pub variables : (place : ℕ) → place < length f.scope → slice_index f.scope place < length sizes
  pub different : (place other : ℕ) → place < other → other < length f.scope → slice_index f.scope place ≡ slice_index f.scope other → ⊥
  pub few : cells (dims sizes f.scope) ≤ MOST_TUPLES
  pub default : f.default ≤ upper
  pub table : length f.entries ≡ cells (dims sizes f.scope)
  pub capped : (c : ℕ) → slice_index f.entries c ≤ upper

pub record IsNetwork (P : Network) : Type 0 where
  pub name : IsWord P.name
  pub some : 0 < length P.sizes
  pub few : length P.sizes ≤ MOST_VARIABLES
  pub sizes : (x : ℕ) → x < length P.sizes → (0 < slice_index P.sizes x) × (slice_index P.sizes x ≤ MOST_VALUES)
  pub upper : P.upper < suc greatest
  pub functions : (f : ℕ) → f < length P.functions → IsFunction P.sizes P.upper (function_at P f)
  pub few_functions : length P.functions ≤ MOST_FUNCTIONS
  pub few_cells : sum_by (λ f. cells (dims P.sizes f.scope)) P.functions ≤ MOST_CELLS

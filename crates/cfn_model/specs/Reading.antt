-- What a wcsp file reads as, and its first refusal (toulbar2 user manual, wcsp format).
-- Words are read from left to right; at each place the checks run in their order, and the first that fails decides.
use Rattle.std.specs.Prelude.{◌≡◌, ℕ, zero, suc, ◌+◌, ◌-◌, ◌*◌, Bool, not, ◌&&◌, ◌||◌, List, [], ◌∷◌, ◌++◌, length, slice_index, slice_index_or, ℤ, pos, negsuc, Option, Some, None, Result, Ok, Err, if◌then◌else◌, ◌==◌, nat_eq, nat_le, nat_lt, int_lt, unsigned_abs}
use Rattle.std.specs.List.{list_any}
use Rattle.std.specs.Cmp.Lexicographic.{pointwise}
use Rattle.cfn_model.specs.declared.limits.TheConstants.{MOST_VARIABLES, MOST_VALUES, MOST_FUNCTIONS, MOST_TUPLES, MOST_CELLS}
use Rattle.cfn_model.specs.declared.reading.NumberFault.{NumberFault}
use Rattle.cfn_model.specs.declared.reading.NumberFault.TheVariants as faults
use Rattle.cfn_model.specs.declared.reading.Kind.{Kind}
use Rattle.cfn_model.specs.declared.reading.Kind.TheVariants.{Short, NotNumber, TooLarge, NoVariables, NegativeCount, EmptyDomain, IntervalDomain, DomainTooLarge, NegativeCost, Keyword, SharedTable, VariableOutOfRange, RepeatedVariable, ValueOutOfRange, TableTooWide, TooMany}
use Rattle.cfn_model.specs.declared.reading.Refusal.{Refusal}
use Rattle.cfn_model.specs.Network.{Function, Network, cells, dims, function_of, no_function}
use Rattle.cfn_model.specs.Words.{words, number_of}

-- The words that are left, and the ordinal of the next one.
pub record At : Type 0 where
  pub words : List (List ℕ)
  pub next : ℕ

-- What is read is a value and the words after it, or the first refusal.
infixl 10 ◌>>=◌
abbrev pub ◌>>=◌ : {A B : Type 0} → Result A Refusal → (A → Result B Refusal) → Result B Refusal
(Ok x) >>= f = f x
(Err e) >>= f = Err e

-- A value, unless a check failed at the word with this ordinal.
abbrev pub unless_refused : {A : Type 0} → Option Kind → ℕ → A → Result A Refusal
unless_refused None n x = Ok x
unless_refused (Some kind) n x = Err (record { kind = kind; ordinal = n })

abbrev pub first_word : List (List ℕ) → ℕ → Result (List ℕ × At) Refusal
first_word [] n = Err (record { kind = Short; ordinal = n })
first_word (word ∷ rest) n = Ok (word, record { words = rest; next = n + 1 })

-- The next word.
abbrev pub word_at : At → Result (List ℕ × At) Refusal
word_at s = first_word s.words s.next

-- A number, with the word's ordinal where it is none.
abbrev pub number_in : Result ℤ NumberFault → ℕ → Result ℤ Refusal
number_in (Ok z) n = Ok z
number_in (Err faults.NotNumber) n = Err (record { kind = NotNumber; ordinal = n })
number_in (Err faults.TooLarge) n = Err (record { kind = TooLarge; ordinal = n })

-- The next word as a number.
abbrev pub number_at : At → Result (ℤ × At) Refusal
number_at s = do
  word ← word_at s
  z ← number_in (number_of word.0) s.next
  Ok (z, word.1)

-- The next word as a number that passes the checks of its place, without its sign.
unfoldable pub natural_at : (ℤ → Option Kind) → At → Result (ℕ × At) Refusal
natural_at check s = do
  z ← number_at s
  unless_refused (check z.0) s.next (unsigned_abs z.0, z.1)

-- The checks of each place.
abbrev pub check_variables : ℤ → Option Kind
check_variables z = if int_lt z (pos 1) then Some NoVariables else (if int_lt (pos MOST_VARIABLES) z then Some TooMany else None)

abbrev pub check_size : ℤ → Option Kind
check_size z = if int_lt z (pos 0) then Some IntervalDomain else (if int_lt z (pos 1) then Some EmptyDomain else None)

abbrev pub check_functions : ℤ → Option Kind
check_functions z = if int_lt z (pos 0) then Some NegativeCount else (if int_lt (pos MOST_FUNCTIONS) z then Some TooMany else None)

abbrev pub check_cost : ℤ → Option Kind
check_cost z = if int_lt z (pos 0) then Some NegativeCost else None

abbrev pub check_domain : ℤ → Option Kind
check_domain z =
    if int_lt z (pos 0) then Some IntervalDomain
    else (if int_lt z (pos 1) then Some EmptyDomain else (if int_lt (pos MOST_VALUES) z then Some DomainTooLarge else None))

-- A scope's next variable, behind those that the scope has so far.
abbrev pub check_variable : List ℕ → List ℕ → ℤ → Option Kind
check_variable sizes scope z =
    if int_lt z (pos 0) || int_lt (pos (length sizes)) (pos (suc (unsigned_abs z))) then Some VariableOutOfRange
    else (if list_any (λ x. x == unsigned_abs z) scope then Some RepeatedVariable
    else (if nat_lt MOST_TUPLES (cells (dims sizes scope) * slice_index sizes (unsigned_abs z)) then Some TableTooWide else None))

-- A default cost, where the functions so far, this one included, have so many cells.
abbrev pub check_default : ℕ → ℤ → Option Kind
check_default all_cells z =
    if int_lt (negsuc 1) z && int_lt z (pos 0) then Some Keyword
    else (if int_lt z (pos 0) then Some NegativeCost else (if nat_lt MOST_CELLS all_cells then Some TooMany else None))

-- The shared table with a number, counted from 1, where these functions have the shared tables.
abbrev pub shared_table : List Function → ℕ → Function
shared_table shared j = slice_index_or shared (j - 1) no_function

-- A function of this arity and scope can have shared table j: its own table does not become shared, there are so many
-- shared tables, and table j is of the same domain sizes.
abbrev pub can_share : List ℕ → List Function → ℤ → List ℕ → ℕ → Bool
can_share sizes shared arity scope j =
    not (int_lt arity (pos 0)) && (nat_le j (length shared) && pointwise nat_eq (dims sizes (shared_table shared j).scope) (dims sizes scope))

-- How many tuples are listed, or, below 0, which shared table the function has.
abbrev pub check_count : List ℕ → List Function → ℤ → List ℕ → ℤ → Option Kind
check_count sizes shared arity scope z =
    if int_lt z (pos 0) && not (can_share sizes shared arity scope (unsigned_abs z)) then Some SharedTable
    else (if int_lt (pos MOST_CELLS) z then Some TooMany else None)

abbrev pub check_value : ℕ → ℤ → Option Kind
check_value size z = if int_lt z (pos 0) || int_lt (pos size) (pos (suc (unsigned_abs z))) then Some ValueOutOfRange else None

-- So many domain sizes.
unfoldable pub sizes_at : ℕ → At → Result (List ℕ × At) Refusal
sizes_at zero s = Ok ([], s)
sizes_at (suc n) s = do
  size ← natural_at check_domain s
  sizes ← sizes_at n size.1
  Ok (size.0 ∷ sizes.0, sizes.1)

-- So many more variables of a scope.
unfoldable pub scope_from : List ℕ → List ℕ → ℕ → At → Result (List ℕ × At) Refusal
scope_from sizes scope zero s = Ok (scope, s)
scope_from sizes scope (suc n) s = do
  x ← natural_at (check_variable sizes scope) s
  scope_from sizes (scope ++ x.0 ∷ []) n x.1

-- A tuple's values, one for each of these domain sizes.
unfoldable pub tuple_at : List ℕ → At → Result (List ℕ × At) Refusal
tuple_at [] s = Ok ([], s)
tuple_at (size ∷ sizes) s = do
  value ← natural_at (check_value size) s
  values ← tuple_at sizes value.1
  Ok (value.0 ∷ values.0, values.1)

-- A tuple with its cost.
unfoldable pub listing_at : List ℕ → At → Result ((List ℕ × ℕ) × At) Refusal
listing_at sizes s = do
  tuple ← tuple_at sizes s
  amount ← natural_at check_cost tuple.1
  Ok ((tuple.0, amount.0), amount.1)

-- So many listings.
unfoldable pub listings_at : List ℕ → ℕ → At → Result (List (List ℕ × ℕ) × At) Refusal
listings_at sizes zero s = Ok ([], s)
listings_at sizes (suc n) s = do
  listing ← listing_at sizes s
  listings ← listings_at sizes n listing.1
  Ok (listing.0 ∷ listings.0, listings.1)

-- A function's own table, of so many listings.
abbrev pub own_table : List ℕ → ℕ → List ℕ → ℕ → ℕ → At → Result (Function × At) Refusal
own_table sizes upper scope default count s = do
  listings ← listings_at (dims sizes scope) count s
  Ok (function_of sizes upper scope default listings.0, listings.1)

-- The function of a scope and a default: with its own table of so many listings, or, where that number is -j, with the
-- default and the entries of shared table j.
unfoldable pub table_at : List ℕ → ℕ → List Function → ℤ → List ℕ → ℕ → At → Result (Function × At) Refusal
table_at sizes upper shared arity scope default s = do
  number ← number_at s
  count ← unless_refused (check_count sizes shared arity scope number.0) s.next number.0
  if int_lt count (pos 0) then Ok (record (shared_table shared (unsigned_abs count)) { scope = scope }, number.1)
      else own_table sizes upper scope default (unsigned_abs count) number.1

-- A cost function, behind functions that have so many cells, and of which these have shared tables; and those that have
-- shared tables behind it, itself included where its arity is below 0.
unfoldable pub function_from : List ℕ → ℕ → List Function → ℕ → At → Result ((Function × List Function) × At) Refusal
function_from sizes upper shared so_far s = do
  arity ← number_at s
  scope ← scope_from sizes [] (unsigned_abs arity.0) arity.1
  default ← natural_at (check_default (so_far + cells (dims sizes scope.0))) scope.1
  f ← table_at sizes upper shared arity.0 scope.0 default.0 default.1
  Ok ((f.0, if int_lt arity.0 (pos 0) then shared ++ f.0 ∷ [] else shared), f.1)

-- So many cost functions, behind functions that have so many cells, and of which these have shared tables.
unfoldable pub functions_from : List ℕ → ℕ → List Function → ℕ → ℕ → At → Result (List Function × At) Refusal
functions_from sizes upper shared so_far zero s = Ok ([], s)
functions_from sizes upper shared so_far (suc n) s = do
  f ← function_from sizes upper shared so_far s
  fs ← functions_from sizes upper f.0.1 (so_far + cells (dims sizes f.0.0.scope)) n f.1
  Ok (f.0.0 ∷ fs.0, fs.1)

-- A network: its name, the number of variables, the greatest domain size (which is not used), the number of
-- functions, the upper bound, the domain sizes, and the functions. What follows is not looked at.
unfoldable pub network_at : At → Result Network Refusal
network_at s = do
  name ← word_at s
  variables ← natural_at check_variables name.1
  widest ← natural_at check_size variables.1
  functions ← natural_at check_functions widest.1
  upper ← natural_at check_cost functions.1
  sizes ← sizes_at variables.0 upper.1
  fs ← functions_from sizes.0 upper.0 [] 0 functions.0 sizes.1
  Ok (record { name = name.0; sizes = sizes.0; upper = upper.0; functions = fs.0 })

-- What a file's bytes read as.
abbrev pub reading : List ℕ → Result Network Refusal
reading bytes = network_at (record { words = words bytes; next = 1 })

-- The bytes read as this network.
abbrev pub Reads : List ℕ → Network → Type 0
Reads bytes P = reading bytes ≡ Ok P

-- The first word that fails is the one with this ordinal, and fails this check.
abbrev pub Refuses : List ℕ → Refusal → Type 0
Refuses bytes refusal = reading bytes ≡ Err refusal

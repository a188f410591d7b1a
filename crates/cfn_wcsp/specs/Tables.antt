-- What the reader makes of tuples and functions, in place of lists of them.
use Rattle.std.specs.Prelude.{ℕ, ◌<◌, List, [], ◌∷◌, ◌++◌, length, map, slice_index, ℤ, Result, Ok}
use Rattle.cfn_model.specs.declared.reading.Refusal.{Refusal}
use Rattle.cfn_model.specs.Network.{Function, Network, cell, function_at}
use Rattle.cfn_model.specs.Reading.{◌>>=◌, At, unless_refused, number_at, check_count, tuple_at, listings_at, table_at, function_from, functions_from}
use Rattle.cfn_net.specs.Building.{all_cells, last, with_entry, with_function, with_last}

-- A tuple, as the number of its cell.
abbrev pub cell_at : List ℕ → At → Result (ℕ × At) Refusal
cell_at sizes s = tuple_at sizes s >>= λ tuple. Ok (cell sizes tuple.0, tuple.1)

-- A function with each listing's cost written at its cell, in order.
abbrev pub listed : ℕ → List ℕ → Function → List (List ℕ × ℕ) → Function
listed upper sizes f [] = f
listed upper sizes f (listing ∷ listings) =
    listed upper sizes (with_entry upper (cell sizes listing.0) listing.1 f) listings

-- Listings that are read, written into the last function of a network.
abbrev pub into_last : Network → List ℕ → Result (List (List ℕ × ℕ) × At) Refusal → Result (Network × At) Refusal
into_last P sizes read =
    read >>= λ x. Ok (with_last P (listed P.upper sizes (function_at P (last P)) x.0), x.1)

-- The next listings, written into the last function of a network.
abbrev pub listings_into : Network → List ℕ → ℕ → At → Result (Network × At) Refusal
listings_into P sizes count s = into_last P sizes (listings_at sizes count s)

-- Numbers of functions of a network, and the functions that have them.
abbrev pub AreNumbers : Network → List ℕ → Type 0
AreNumbers P numbers = (i : ℕ) → i < length numbers → slice_index numbers i < length P.functions

abbrev pub tables_of : Network → List ℕ → List Function
tables_of P numbers = map (function_at P) numbers

-- How many tuples are listed, or, below 0, which shared table the function has.
abbrev pub count_at : List ℕ → List Function → ℤ → List ℕ → At → Result (ℤ × At) Refusal
count_at sizes shared arity scope s =
    number_at s >>= λ z. unless_refused (check_count sizes shared arity scope z.0) s.next z

-- A function of a scope and a default, at the end of a network's functions, of which these have shared tables.
abbrev pub table_onto : Network → List Function → ℤ → List ℕ → ℕ → At → Result (Network × At) Refusal
table_onto P shared arity scope default s =
    table_at P.sizes P.upper shared arity scope default s >>= λ f. Ok (with_function P f.0, f.1)

-- The next function, at the end of a network's functions, of which these have shared tables, and those that then have
-- shared tables.
abbrev pub function_onto : Network → List Function → At → Result ((Network × List Function) × At) Refusal
function_onto P shared s =
    function_from P.sizes P.upper shared (all_cells P) s >>= λ f. Ok ((with_function P f.0.0, f.0.1), f.1)

-- So many functions, behind a network's functions, of which these have shared tables.
abbrev pub functions_onto : Network → List Function → ℕ → At → Result (Network × At) Refusal
functions_onto P shared count s =
    functions_from P.sizes P.upper shared (all_cells P) count s >>= λ fs. Ok (record P { functions = P.functions ++ fs.0 }, fs.1)

-- What the reader makes of literals and clauses, in place of lists of them.
use Rattle.std.specs.Prelude.{◌≡◌, ℕ, List, ◌++◌, map, length, ℤ, Option, Result, Ok}
use Rattle.cfn_model.specs.declared.reading.Kind.{Kind}
use Rattle.cfn_model.specs.declared.reading.Refusal.{Refusal}
use Rattle.cfn_model.specs.Network.{Network}
use Rattle.cfn_model.specs.Words.{number_of}
use Rattle.cfn_model.specs.Reading.{◌>>=◌, At, word_at, number_in, unless_refused}
use Rattle.cfn_net.specs.Building.{all_cells, with_function}
use Rattle.cfn_wcnf.specs.declared.clause.Occurrence.{Occurrence}
use Rattle.cfn_wcnf.specs.Clauses.{binary, function_for, occurrences_from, network_of}
use Rattle.cfn_wcnf.specs.Reading.{literals_in, clause_from, clauses_from, formula_at}

-- The next word as a number that passes a check.
abbrev pub integer_at : (ℤ → Option Kind) → At → Result (ℤ × At) Refusal
integer_at check s =
    word_at s >>= λ word. number_in (number_of word.0) s.next >>= λ z. unless_refused (check z) s.next (z, word.1)

-- The literals of a clause up to its 0, as the polarities of variables, behind those of earlier literals.
abbrev pub gathered_at : ℕ → ℕ → List Occurrence → At → Result (List Occurrence × At) Refusal
gathered_at n so_far os s =
    literals_in n so_far os s.words s.next >>= λ literals. Ok (occurrences_from os literals.0, literals.1)

-- A network's domains have two values each.
abbrev pub IsBinary : Network → Type 0
IsBinary P = P.sizes ≡ binary (length P.sizes)

-- The next clause, as a function at the end of a network's functions.
abbrev pub clause_onto : Network → At → Result (Network × At) Refusal
clause_onto P s =
    clause_from (length P.sizes) (all_cells P) s >>= λ c. Ok (with_function P (function_for (length P.sizes) P.upper c.0), c.1)

-- So many clauses, as functions behind a network's functions.
abbrev pub clauses_onto : Network → ℕ → At → Result (Network × At) Refusal
clauses_onto P count s =
    clauses_from (length P.sizes) (all_cells P) count s >>= λ cs. Ok (record P { functions = P.functions ++ map (function_for (length P.sizes) P.upper) cs.0 }, cs.1)

-- The network of a formula that is read.
abbrev pub network_at : At → Result Network Refusal
network_at s = formula_at s >>= λ F. Ok (network_of F)

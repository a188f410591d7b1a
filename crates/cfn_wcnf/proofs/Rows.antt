-- Small wcnf files whose networks and refusals are known, as theorems that compute.
use Rattle.std.proofs.Common.{◌≡◌, ℕ, List, [], ◌∷◌, ◌++◌, refl}
use Rattle.std.specs.Prelude.{codes}
use Rattle.cfn_model.specs.declared.reading.Kind.{Kind}
use Rattle.cfn_model.specs.declared.reading.Kind.TheVariants.{Short, NotNumber, TooLarge, NoVariables, NegativeCount, NegativeCost, VariableOutOfRange, TableTooWide, TooMany}
use Rattle.cfn_model.specs.Network.{Function, Network, cost}
use Rattle.cfn_model.specs.Reading.{natural_at}
use Rattle.cfn_wcnf.specs.declared.fault.Unread.{Unread}
use Rattle.cfn_wcnf.specs.declared.fault.Unread.TheVariants.{Header, Word}
use Rattle.cfn_wcnf.specs.Reading.{Reads, Refuses, literals_in, clause_from, clauses_from, formula_at}

-- a function of its scope, its default and its entries
abbrev row : List ℕ → ℕ → List ℕ → Function
row scope default entries = record { scope = scope; default = default; entries = entries }

abbrev refused : Kind → ℕ → Unread
refused kind ordinal = Word (record { kind = kind; ordinal = ordinal })

abbrev pair : Network
pair = record { name = codes "wcnf"; sizes = 2 ∷ 2 ∷ []; upper = 10; functions = row (0 ∷ 1 ∷ []) 0 (10 ∷ 0 ∷ 0 ∷ 0 ∷ []) ∷ row (0 ∷ []) 0 (0 ∷ 3 ∷ []) ∷ row (1 ∷ []) 0 (0 ∷ 4 ∷ []) ∷ [] }

pub pair_reads : Reads (codes "p wcnf 2 3 10\n10 1 2 0\n3 -1 0\n4 -2 0\n") pair
unfolding natural_at literals_in clause_from clauses_from formula_at
pair_reads = refl

-- what follows the last clause is not looked at, and a weight above the top is the top
pub after_reads : Reads (codes "p wcnf 2 3 10 10 2 1 0 3 -1 0 4 -2 0 5 x") pair
unfolding natural_at literals_in clause_from clauses_from formula_at
after_reads = refl

pub pair_costs : (cost pair (1 ∷ 0 ∷ []) ≡ 3) × (cost pair (0 ∷ 1 ∷ []) ≡ 4) × (cost pair (1 ∷ 1 ∷ []) ≡ 7) × (cost pair (0 ∷ 0 ∷ []) ≡ 10)
pair_costs = (refl, refl, refl, refl)

abbrev one : List Function → Network
one functions = record { name = codes "wcnf"; sizes = 2 ∷ 2 ∷ []; upper = 10; functions = functions }

-- a literal that stands twice counts once
pub twice_reads : Reads (codes "p wcnf 2 1 10\n3 2 -1 2 -1 0\n") (one (row (0 ∷ 1 ∷ []) 0 (0 ∷ 0 ∷ 3 ∷ 0 ∷ []) ∷ []))
unfolding natural_at literals_in clause_from clauses_from formula_at
twice_reads = refl

-- a literal and its opposite
pub tautology_reads : Reads (codes "p wcnf 2 1 10\n3 1 2 -1 1 0\n") (one (row [] 0 (0 ∷ []) ∷ []))
unfolding natural_at literals_in clause_from clauses_from formula_at
tautology_reads = refl

-- no literals
pub empty_reads : Reads (codes "p wcnf 2 2 10\n3 0 11 0\n") (one (row [] 3 (3 ∷ []) ∷ row [] 10 (10 ∷ []) ∷ []))
unfolding natural_at literals_in clause_from clauses_from formula_at
empty_reads = refl

pub none_reads : Reads (codes "p wcnf 2 0 10") (one [])
unfolding natural_at literals_in clause_from clauses_from formula_at
none_reads = refl

-- comments: before the header, between the words of a clause, a lone c, one with a CR in it, and the last line
pub comments_read : Reads (codes "c p cnf\np wcnf 2 3 10\nc\n10 1\nc 7 x\r 9\nc2 0\n2 0\n 3 -1 0\n4 -2 0\nc end") pair
unfolding natural_at literals_in clause_from clauses_from formula_at
comments_read = refl

-- a c behind white space, or behind a CR, begins no comment
pub late_comment : Refuses (codes "p wcnf 2 1 10\n c\n1 0\n") (refused NotNumber 6)
unfolding natural_at literals_in clause_from clauses_from formula_at
late_comment = refl

pub return_comment : Refuses (codes "p wcnf 2 1 10\rc\r1 0\n") (refused NotNumber 6)
unfolding natural_at literals_in clause_from clauses_from formula_at
return_comment = refl

-- refusals: the first word that fails, and why
pub no_words : Refuses [] (refused Short 1)
unfolding natural_at literals_in clause_from clauses_from formula_at
no_words = refl

pub comment_only : Refuses (codes "c p wcnf 2 3 10") (refused Short 1)
unfolding natural_at literals_in clause_from clauses_from formula_at
comment_only = refl

pub no_format : Refuses (codes "p") (refused Short 2)
unfolding natural_at literals_in clause_from clauses_from formula_at
no_format = refl

pub no_header : Refuses (codes "h 1 2 0") (Header 1)
unfolding natural_at literals_in clause_from clauses_from formula_at
no_header = refl

pub other_format : Refuses (codes "p cnf 2 3 10\n10 1 2 0\n3 -1 0\n4 -2 0\n") (Header 2)
unfolding natural_at literals_in clause_from clauses_from formula_at
other_format = refl

pub longer_header : Refuses (codes "p wcnfs 2 3 10") (Header 2)
unfolding natural_at literals_in clause_from clauses_from formula_at
longer_header = refl

pub variables_no_number : Refuses (codes "p wcnf x 3 10") (refused NotNumber 3)
unfolding natural_at literals_in clause_from clauses_from formula_at
variables_no_number = refl

pub no_variables : Refuses (codes "p wcnf 0 3 10") (refused NoVariables 3)
unfolding natural_at literals_in clause_from clauses_from formula_at
no_variables = refl

pub many_variables : Refuses (codes "p wcnf 1048577 3 10") (refused TooMany 3)
unfolding natural_at literals_in clause_from clauses_from formula_at
many_variables = refl

pub negative_clauses : Refuses (codes "p wcnf 2 -1 10") (refused NegativeCount 4)
unfolding natural_at literals_in clause_from clauses_from formula_at
negative_clauses = refl

pub many_clauses : Refuses (codes "p wcnf 2 1048577 10") (refused TooMany 4)
unfolding natural_at literals_in clause_from clauses_from formula_at
many_clauses = refl

pub no_top : Refuses (codes "p wcnf 2 3") (refused Short 5)
unfolding natural_at literals_in clause_from clauses_from formula_at
no_top = refl

pub negative_top : Refuses (codes "p wcnf 2 3 -1") (refused NegativeCost 5)
unfolding natural_at literals_in clause_from clauses_from formula_at
negative_top = refl

pub large_top : Refuses (codes "p wcnf 2 3 9223372036854775808") (refused TooLarge 5)
unfolding natural_at literals_in clause_from clauses_from formula_at
large_top = refl

pub negative_weight : Refuses (codes "p wcnf 2 3 10\n-1 1 0") (refused NegativeCost 6)
unfolding natural_at literals_in clause_from clauses_from formula_at
negative_weight = refl

pub hard_line : Refuses (codes "p wcnf 2 3 10\nh 1 0") (refused NotNumber 6)
unfolding natural_at literals_in clause_from clauses_from formula_at
hard_line = refl

pub out_of_range : Refuses (codes "p wcnf 2 3 10\n10 1 3 0\n3 -1 0\n4 -2 0\n") (refused VariableOutOfRange 8)
unfolding natural_at literals_in clause_from clauses_from formula_at
out_of_range = refl

-- the words of comments have no ordinals
pub out_of_range_behind_comments : Refuses (codes "c a b\np wcnf 2 3 10\nc 1 2 3\n10 1 -3 0\n") (refused VariableOutOfRange 8)
unfolding natural_at literals_in clause_from clauses_from formula_at
out_of_range_behind_comments = refl

pub no_end : Refuses (codes "p wcnf 2 1 10\n10 1 2") (refused Short 9)
unfolding natural_at literals_in clause_from clauses_from formula_at
no_end = refl

pub no_clause : Refuses (codes "p wcnf 2 2 10\n10 1 2 0\n") (refused Short 10)
unfolding natural_at literals_in clause_from clauses_from formula_at
no_clause = refl

-- the twenty-third variable of a clause, and not one that stands there already
pub wide : Refuses (codes "p wcnf 23 1 10\n1 1 2 3 4 5 6 7 8 9 10 11 12 13 14 15 16 17 18 19 20 21 22 -22 1 23 0\n") (refused TableTooWide 31)
unfolding natural_at literals_in clause_from clauses_from formula_at
wide = refl

-- sixteen clauses of twenty-two variables have all the cells that there may be
abbrev widest : List ℕ
widest = codes "1 1 2 3 4 5 6 7 8 9 10 11 12 13 14 15 16 17 18 19 20 21 22 0\n"

abbrev four : List ℕ
four = widest ++ widest ++ widest ++ widest

pub many_cells : Refuses (codes "p wcnf 22 17 10\n" ++ four ++ four ++ four ++ four ++ codes "5 0\n") (refused TooMany 391)
unfolding natural_at literals_in clause_from clauses_from formula_at
many_cells = refl

pub most_cells : Refuses (codes "p wcnf 22 17 10\n" ++ four ++ four ++ four ++ four ++ codes "5\n") (refused Short 391)
unfolding natural_at literals_in clause_from clauses_from formula_at
most_cells = refl

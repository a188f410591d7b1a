-- What a wcnf file reads as, and its first refusal (weighted partial MaxSAT with a top, MaxSAT Evaluations).
-- The words of the lines that are no comments are read from left to right; at each place the checks run in their order,
-- and the first that fails decides.
use Rattle.std.specs.Prelude.{◌≡◌, ℕ, zero, suc, ◌+◌, Bool, true, false, List, [], ◌∷◌, length, codes, ℤ, pos, negsuc, Option, Some, None, Result, Ok, Err, if◌then◌else◌, nat_lt, unsigned_abs}
use Rattle.std.specs.Str.{bytes_eq}
use Rattle.cfn_model.specs.declared.limits.TheConstants.{MOST_CELLS}
use Rattle.cfn_model.specs.declared.reading.Kind.{Kind}
use Rattle.cfn_model.specs.declared.reading.Kind.TheVariants.{Short, VariableOutOfRange, TableTooWide, TooMany}
use Rattle.cfn_model.specs.declared.reading.Refusal.{Refusal}
use Rattle.cfn_model.specs.Network.{Network}
use Rattle.cfn_model.specs.Words.{number_of}
use Rattle.cfn_model.specs.Reading.{◌>>=◌, At, word_at, number_in, natural_at, unless_refused, check_variables, check_functions, check_cost}
use Rattle.cfn_wcnf.specs.declared.clause.TheConstants.{MOST_CLAUSE_VARIABLES}
use Rattle.cfn_wcnf.specs.declared.clause.Occurrence.{Occurrence}
use Rattle.cfn_wcnf.specs.declared.fault.Unread.{Unread}
use Rattle.cfn_wcnf.specs.declared.fault.Unread.TheVariants.{Header, Word}
use Rattle.cfn_wcnf.specs.Lines.{text_words}
use Rattle.cfn_wcnf.specs.Clauses.{Clause, Formula, with_literal, occurrences, clause_cells, network_of, wcnf}

-- A literal behind others of its clause, among so many variables.
abbrev pub check_literal : ℕ → List Occurrence → ℤ → Option Kind
check_literal n os z =
    if nat_lt n (unsigned_abs z) then Some VariableOutOfRange
    else (if nat_lt MOST_CLAUSE_VARIABLES (length (with_literal os z)) then Some TableTooWide else None)

-- The 0 of a clause, where the functions of the clauses before it have so many cells.
abbrev pub check_end : ℕ → List Occurrence → Option Kind
check_end so_far os = if nat_lt MOST_CELLS (so_far + clause_cells os) then Some TooMany else None

abbrev pub is_zero : ℤ → Bool
is_zero (pos zero) = true
is_zero (pos (suc n)) = false
is_zero (negsuc n) = false

abbrev pub check_number : ℕ → ℕ → List Occurrence → ℤ → Option Kind
check_number n so_far os z = if is_zero z then check_end so_far os else check_literal n os z

-- The literals of a clause up to its 0, behind others.
unfoldable pub literals_in : ℕ → ℕ → List Occurrence → List (List ℕ) → ℕ → Result (List ℤ × At) Refusal
literals_in n so_far os [] next = Err (record { kind = Short; ordinal = next })
literals_in n so_far os (word ∷ words) next = do
  z ← number_in (number_of word) next
  checked ← unless_refused (check_number n so_far os z) next z
  if is_zero checked then Ok ([], record { words = words; next = next + 1 })
      else (literals_in n so_far (with_literal os checked) words (next + 1) >>= λ rest. Ok (checked ∷ rest.0, rest.1))

-- A clause, behind clauses whose functions have so many cells: its weight, its literals, and 0.
unfoldable pub clause_from : ℕ → ℕ → At → Result (Clause × At) Refusal
clause_from n so_far s = do
  weight ← natural_at check_cost s
  literals ← literals_in n so_far [] weight.1.words weight.1.next
  Ok (record { weight = weight.0; literals = literals.0 }, literals.1)

-- So many clauses.
unfoldable pub clauses_from : ℕ → ℕ → ℕ → At → Result (List Clause × At) Refusal
clauses_from n so_far zero s = Ok ([], s)
clauses_from n so_far (suc count) s = do
  c ← clause_from n so_far s
  cs ← clauses_from n (so_far + clause_cells (occurrences c.0.literals)) count c.1
  Ok (c.0 ∷ cs.0, cs.1)

-- A formula behind its header: the number of variables, the number of clauses, the top, and the clauses. What follows is
-- not looked at.
unfoldable pub formula_at : At → Result Formula Refusal
formula_at s = do
  variables ← natural_at check_variables s
  count ← natural_at check_functions variables.1
  top ← natural_at check_cost count.1
  clauses ← clauses_from variables.0 0 count.0 top.1
  Ok (record { variables = variables.0; top = top.0; clauses = clauses.0 })

-- The words behind a word, which has to be this one.
abbrev pub behind_word : List ℕ → ℕ → Result (List ℕ × At) Refusal → Result At Unread
behind_word key n (Ok word) = if bytes_eq word.0 key then Ok word.1 else Err (Header n)
behind_word key n (Err refusal) = Err (Word refusal)

abbrev pub keyword_at : List ℕ → At → Result At Unread
keyword_at key s = behind_word key s.next (word_at s)

-- What is read behind the words of the header, if these are there.
abbrev pub behind : {A : Type 0} → Result At Unread → (At → Result A Unread) → Result A Unread
behind (Ok s) read = read s
behind (Err unread) read = Err unread

abbrev pub in_words : {A : Type 0} → Result A Refusal → Result A Unread
in_words (Ok x) = Ok x
in_words (Err refusal) = Err (Word refusal)

-- The words behind `p` and `wcnf`.
abbrev pub header_at : At → Result At Unread
header_at s = behind (keyword_at (codes "p") s) (keyword_at wcnf)

-- What a file's bytes read as: a formula, and its network.
abbrev pub formula : List ℕ → Result Formula Unread
formula bytes = behind (header_at (record { words = text_words bytes; next = 1 })) (λ s. in_words (formula_at s))

abbrev pub network_for : Result Formula Unread → Result Network Unread
network_for (Ok F) = Ok (network_of F)
network_for (Err unread) = Err unread

abbrev pub reading : List ℕ → Result Network Unread
reading bytes = network_for (formula bytes)

-- The bytes read as this network.
abbrev pub Reads : List ℕ → Network → Type 0
Reads bytes P = reading bytes ≡ Ok P

-- The first word that fails is refused so.
abbrev pub Refuses : List ℕ → Unread → Type 0
Refuses bytes unread = reading bytes ≡ Err unread

-- The line that some words say, if they say one: the definitions of Lines.antt read backwards.
use Rattle.std.specs.Prelude.{ℕ, List, [], ◌∷◌, Option, Some, None, codes, if◌then◌else◌}
use Rattle.std.specs.Str.{bytes_eq}
use Rattle.cfn_fault.specs.Decoding.{◌>>=◌, word_from, numbers_in, at_end, line_by}
use Rattle.cfn_record.specs.Lines.{RecordLine, Heading, Budget, Take, Give, Back, Recall, Sweep, Says}

-- The first line, behind its first word.
unfoldable pub heading_line : List (List ℕ) → Option RecordLine
heading_line words = do
  word ← word_from words
  if bytes_eq word.0 (codes "1") then at_end Heading word.1 else None

-- A budget, by its number.
abbrev pub budget_of : List ℕ → Option RecordLine
budget_of (budget ∷ []) = Some (Budget budget)
budget_of numbers = None

-- A take, by its numbers.
abbrev pub take_of : List ℕ → Option RecordLine
take_of (worker ∷ want ∷ leaf ∷ grant ∷ []) = Some (Take worker want leaf grant)
take_of numbers = None

-- A give, by its numbers.
abbrev pub give_of : List ℕ → Option RecordLine
give_of (worker ∷ leaf ∷ grant ∷ threshold ∷ seen ∷ []) = Some (Give worker leaf grant threshold seen)
give_of numbers = None

-- A leaf that is given back, by its numbers.
abbrev pub back_of : List ℕ → Option RecordLine
back_of (worker ∷ leaf ∷ grant ∷ []) = Some (Back worker leaf grant)
back_of numbers = None

-- A sweep, by its number.
abbrev pub sweep_of : List ℕ → Option RecordLine
sweep_of (seen ∷ []) = Some (Sweep seen)
sweep_of numbers = None

-- A line whose words behind the first are numbers.
abbrev pub numbers_line : (List ℕ → Option RecordLine) → List (List ℕ) → Option RecordLine
numbers_line line_with words = numbers_in words >>= line_with

-- A line of a certificate.
unfoldable pub certificate_line : List ℕ → List (List ℕ) → Option RecordLine
certificate_line word words = do
  l ← line_by word words
  Some (Says l)

-- The line that a first word and others behind it say.
unfoldable pub line_said_by : List ℕ → List (List ℕ) → Option RecordLine
line_said_by word words =
    if bytes_eq word (codes "wcsprecord") then heading_line words
    else if bytes_eq word (codes "budget") then numbers_line budget_of words
    else if bytes_eq word (codes "take") then numbers_line take_of words
    else if bytes_eq word (codes "give") then numbers_line give_of words
    else if bytes_eq word (codes "back") then numbers_line back_of words
    else if bytes_eq word (codes "recall") then at_end Recall words
    else if bytes_eq word (codes "sweep") then numbers_line sweep_of words
    else certificate_line word words

-- The line that words say.
unfoldable pub line_said : List (List ℕ) → Option RecordLine
line_said words = do
  word ← word_from words
  line_said_by word.0 word.1

-- The line that some words say, if they say one: the definitions of Lines.antt read backwards.
use Rattle.std.specs.Prelude.{ℕ, List, [], ◌∷◌, Option, Some, None, codes, if◌then◌else◌}
use Rattle.std.specs.Str.{bytes_eq}
use Rattle.cfn_fault.specs.Decoding.{◌>>=◌, word_from, number_from, amount_from, at_end, line_by}
use Rattle.cfn_best.specs.Lines.{ListLine, Heading, Count, Lists, Says}

unfoldable pub heading_line : List (List ℕ) → Option ListLine
heading_line words = do
  word ← word_from words
  if bytes_eq word.0 (codes "1") then at_end Heading word.1 else None

unfoldable pub count_line : List (List ℕ) → Option ListLine
count_line words = do
  count ← amount_from words
  at_end (Count count.0) count.1

unfoldable pub lists_line : List (List ℕ) → Option ListLine
lists_line words = do
  number ← number_from words
  at_end (Lists number.0) number.1

unfoldable pub certificate_line : List ℕ → List (List ℕ) → Option ListLine
certificate_line word words = do
  l ← line_by word words
  Some (Says l)

-- The line that words say, by the first of them.
unfoldable pub line_said_by : List ℕ → List (List ℕ) → Option ListLine
line_said_by word words =
    if bytes_eq word (codes "wcspbest") then heading_line words
    else if bytes_eq word (codes "count") then count_line words
    else if bytes_eq word (codes "listed") then lists_line words
    else certificate_line word words

unfoldable pub line_said : List (List ℕ) → Option ListLine
line_said words = do
  word ← word_from words
  line_said_by word.0 word.1

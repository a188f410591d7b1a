-- The line that some words say, if they say one: the definitions of Lines.antt read backwards.
use Rattle.std.specs.Prelude.{ℕ, Bool, true, false, not, ◌&&◌, List, [], ◌∷◌, Option, Some, None, codes, if◌then◌else◌, ◌==◌, nat_lt}
use Rattle.std.specs.List.{list_all}
use Rattle.std.specs.Str.{bytes_eq}
use Rattle.cfn_model.specs.declared.step.Step.TheVariants.{Project, Extend, Lift, CutValue, CutTuple}
use Rattle.cfn_model.specs.declared.step.Decision.TheVariants.{Is, Most}
use Rattle.cfn_model.specs.declared.version.Version as versions
use Rattle.cfn_model.specs.declared.version.Version.TheVariants.{First, Second}
use Rattle.cfn_model.specs.Words.{with_first, is_digit, digits_behind, greatest}
use Rattle.cfn_fault.specs.Nodes.{Makes, LeavesOpen, Closes, Splits}
use Rattle.cfn_fault.specs.Lines.{Line, Version, Numbers, Lower, NoBest, Best, Values, Root, Node, End}

-- A value, if there is one, and what is made of it.
infixl 10 ◌>>=◌
abbrev pub ◌>>=◌ : {A B : Type 0} → Option A → (A → Option B) → Option B
None >>= f = None
(Some x) >>= f = f x

-- The words of a line's bytes before its LF: they are parted at each space.
abbrev pub words_in : List ℕ → List (List ℕ)
words_in [] = [] ∷ []
words_in (b ∷ bytes) = if b == 32 then [] ∷ words_in bytes else with_first b (words_in bytes)

-- A word is not empty, and has no 0 before another byte.
abbrev pub has_one_form : List ℕ → Bool
has_one_form [] = false
has_one_form (b ∷ []) = true
has_one_form (b ∷ c ∷ bytes) = not (b == 48)

-- The number that a word is: `0`, or digits that begin with 1 to 9, at most the greatest.
unfoldable pub numeral : List ℕ → Option ℕ
numeral word =
    if has_one_form word && list_all is_digit word then (if nat_lt greatest (digits_behind 0 word) then None else Some (digits_behind 0 word)) else None

-- The next word, the next number, and the next amount, with the words behind it.
abbrev pub word_from : List (List ℕ) → Option (List ℕ × List (List ℕ))
word_from [] = None
word_from (word ∷ words) = Some (word, words)

abbrev pub with_rest : Option ℕ → List (List ℕ) → Option (ℕ × List (List ℕ))
with_rest None words = None
with_rest (Some n) words = Some (n, words)

unfoldable pub number_from : List (List ℕ) → Option (ℕ × List (List ℕ))
number_from words = do
  word ← word_from words
  with_rest (numeral word.0) word.1

unfoldable pub amount_from : List (List ℕ) → Option (ℕ × List (List ℕ))
amount_from words = do
  n ← number_from words
  if n.0 == 0 then None else Some n

-- A value where no word is left.
abbrev pub at_end : {A : Type 0} → A → List (List ℕ) → Option A
at_end x [] = Some x
at_end x (word ∷ words) = None

-- All words as numbers.
unfoldable pub numbers_in : List (List ℕ) → Option (List ℕ)
numbers_in [] = Some []
numbers_in (word ∷ words) = do
  n ← numeral word
  rest ← numbers_in words
  Some (n ∷ rest)

-- The numbers of each kind of line.
unfoldable pub numbers_line : List (List ℕ) → Option Line
numbers_line words = do
  n ← number_from words
  e ← number_from n.1
  upper ← number_from e.1
  at_end (Numbers n.0 e.0 upper.0) upper.1

unfoldable pub lower_line : List (List ℕ) → Option Line
lower_line words = do
  lower ← number_from words
  at_end (Lower lower.0) lower.1

unfoldable pub best_line : List (List ℕ) → Option Line
best_line words = do
  word ← word_from words
  if bytes_eq word.0 (codes "none") then at_end NoBest word.1 else (number_from words >>= λ cost. at_end (Best cost.0) cost.1)

abbrev pub are_values : List (List ℕ) → Option Line
are_values [] = None
are_values (word ∷ words) = numbers_in (word ∷ words) >>= λ values. Some (Values values)

-- The version that a word names, if it names one.
unfoldable pub version_of : List ℕ → Option versions.Version
version_of word = if bytes_eq word (codes "1") then Some First else (if bytes_eq word (codes "2") then Some Second else None)

unfoldable pub version_line : List (List ℕ) → Option Line
version_line words = do
  word ← word_from words
  version ← version_of word.0
  at_end (Version version) word.1

unfoldable pub project_line : List (List ℕ) → Option Line
project_line words = do
  f ← number_from words
  i ← number_from f.1
  a ← number_from i.1
  m ← amount_from a.1
  at_end (Node (Makes (Project f.0 i.0 a.0 m.0))) m.1

unfoldable pub extend_line : List (List ℕ) → Option Line
extend_line words = do
  f ← number_from words
  i ← number_from f.1
  a ← number_from i.1
  m ← amount_from a.1
  at_end (Node (Makes (Extend f.0 i.0 a.0 m.0))) m.1

unfoldable pub lift_line : List (List ℕ) → Option Line
lift_line words = do
  x ← number_from words
  m ← amount_from x.1
  at_end (Node (Makes (Lift x.0 m.0))) m.1

unfoldable pub value_line : List (List ℕ) → Option Line
value_line words = do
  x ← number_from words
  a ← number_from x.1
  at_end (Node (Makes (CutValue x.0 a.0))) a.1

unfoldable pub tuple_line : List (List ℕ) → Option Line
tuple_line words = do
  f ← number_from words
  c ← number_from f.1
  at_end (Node (Makes (CutTuple f.0 c.0))) c.1

unfoldable pub split_line : List (List ℕ) → Option Line
split_line words = do
  x ← number_from words
  a ← number_from x.1
  at_end (Node (Splits (Is x.0 a.0))) a.1

unfoldable pub part_line : List (List ℕ) → Option Line
part_line words = do
  x ← number_from words
  v ← number_from x.1
  at_end (Node (Splits (Most x.0 v.0))) v.1

-- The line that words say, by the first of them.
unfoldable pub node_line : List ℕ → List (List ℕ) → Option Line
node_line word words =
    if bytes_eq word (codes "p") then project_line words
    else if bytes_eq word (codes "e") then extend_line words
    else if bytes_eq word (codes "u") then lift_line words
    else if bytes_eq word (codes "v") then value_line words
    else if bytes_eq word (codes "t") then tuple_line words
    else if bytes_eq word (codes "open") then at_end (Node LeavesOpen) words
    else if bytes_eq word (codes "closed") then at_end (Node Closes) words
    else if bytes_eq word (codes "split") then split_line words
    else if bytes_eq word (codes "part") then part_line words
    else None

unfoldable pub item_line : List ℕ → List (List ℕ) → Option Line
item_line word words =
    if bytes_eq word (codes "wcspcert") then version_line words
    else if bytes_eq word (codes "network") then numbers_line words
    else if bytes_eq word (codes "lower") then lower_line words
    else if bytes_eq word (codes "best") then best_line words
    else if bytes_eq word (codes "tree") then at_end Root words
    else if bytes_eq word (codes "end") then at_end End words
    else node_line word words

unfoldable pub line_by : List ℕ → List (List ℕ) → Option Line
line_by word words = if bytes_eq word (codes "values") then are_values words else item_line word words

unfoldable pub line_of : List (List ℕ) → Option Line
line_of words = do
  word ← word_from words
  line_by word.0 word.1

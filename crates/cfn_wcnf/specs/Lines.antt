-- The words of a text's lines that are no comments.
use Rattle.std.specs.Prelude.{ℕ, Bool, false, List, [], ◌∷◌, ◌++◌, if◌then◌else◌, ◌==◌}
use Rattle.cfn_model.specs.Words.{with_first, words}

-- The lines of a text, without the LF at their ends. Nothing else ends a line.
abbrev pub lines : List ℕ → List (List ℕ)
lines [] = []
lines (b ∷ bytes) = if b == 10 then [] ∷ lines bytes else with_first b (lines bytes)

-- A comment is a line whose first byte is a c.
abbrev pub is_comment : List ℕ → Bool
is_comment [] = false
is_comment (b ∷ bytes) = b == 99

-- The words of a line, where it is no comment.
abbrev pub line_words : List ℕ → List (List ℕ)
line_words line = if is_comment line then [] else words line

abbrev pub words_of : List (List ℕ) → List (List ℕ)
words_of [] = []
words_of (line ∷ lines) = line_words line ++ words_of lines

-- The words of the lines that are no comments.
abbrev pub text_words : List ℕ → List (List ℕ)
text_words bytes = words_of (lines bytes)

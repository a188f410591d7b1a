-- How far the words of a text's lines have been taken.
use Rattle.std.specs.Prelude.{ℕ, ◌+◌, ◌-◌, List, ◌++◌, length}
use Rattle.cfn_words.specs.Splitting.{Place, left}
use Rattle.cfn_wcnf.specs.declared.lines.Lines.{Lines}
use Rattle.cfn_wcnf.specs.Lines.{text_words}

-- The words that are left.
abbrev pub words_left : Lines → List (List ℕ)
words_left t = left t.line ++ text_words t.rest.now

-- How many bytes of the line, and of the text, have not been looked at.
abbrev pub line_left : Place → ℕ
line_left p = length p.text - p.at

abbrev pub bytes_left : Lines → ℕ
bytes_left t = line_left t.line + length t.rest.now

-- The words of a line.
use Rattle.std.specs.Prelude.{ℕ, List, decimal}
use Rattle.cfn_line.specs.declared.word.Word.{Word}
use Rattle.cfn_line.specs.declared.word.Word.TheVariants.{Name, Number}

-- a fixed word, or a number's digits
abbrev pub word_text : Word → List ℕ
word_text (Name name) = name.now
word_text (Number n) = decimal n

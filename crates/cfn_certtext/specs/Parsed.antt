-- The line that was read, as the reader has it.
use Rattle.std.specs.Prelude.{◌∷◌}
use Rattle.cfn_fault.specs.Lines as lines
use Rattle.cfn_fault.specs.Lines.{Line}
use Rattle.cfn_certtext.specs.declared.parsed.Parsed.{Parsed}
use Rattle.cfn_certtext.specs.declared.parsed.Parsed.TheVariants.{One, Values}
use Rattle.cfn_certtext.specs.Stages.{IsWhole, line_of_item, values_of}

abbrev pub line_of_parsed : Parsed → Line
line_of_parsed (One item) = line_of_item item
line_of_parsed (Values first others) = lines.Values (first ∷ values_of others)

abbrev pub IsWholeLine : Parsed → Type 0
IsWholeLine (One item) = IsWhole item
IsWholeLine (Values first others) = Unit {0}

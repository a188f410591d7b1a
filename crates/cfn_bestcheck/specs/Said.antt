-- The line that was read.
use Rattle.std.specs.Prelude.{◌∷◌, Option, Some, None}
use Rattle.cfn_fault.specs.Lines as lines
use Rattle.cfn_certtext.specs.Stages.{IsWhole, line_of_item, values_of}
use Rattle.cfn_best.specs.Lines.{ListLine, Heading, Count, Lists, Says}
use Rattle.cfn_bestcheck.specs.declared.said.Said.{Said}
use Rattle.cfn_bestcheck.specs.declared.said.Said.TheVariants as saying

abbrev pub line_of_said : Said → ListLine
line_of_said saying.Heading = Heading
line_of_said (saying.Count count) = Count count
line_of_said (saying.Listed number) = Lists number
line_of_said (saying.Item item) = Says (line_of_item item)
line_of_said (saying.Values first others) = Says (lines.Values (first ∷ values_of others))

-- An item that was read is a whole line.
abbrev pub IsWholeSaid : Said → Type 0
IsWholeSaid saying.Heading = Unit {0}
IsWholeSaid (saying.Count count) = Unit {0}
IsWholeSaid (saying.Listed number) = Unit {0}
IsWholeSaid (saying.Item item) = IsWhole item
IsWholeSaid (saying.Values first others) = Unit {0}

abbrev pub line_in : Option Said → Option ListLine
line_in None = None
line_in (Some said) = Some (line_of_said said)

abbrev pub IsWholeIn : Option Said → Type 0
IsWholeIn None = Unit {0}
IsWholeIn (Some said) = IsWholeSaid said

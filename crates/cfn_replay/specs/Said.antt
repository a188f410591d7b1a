-- The line that was read.
use Rattle.std.specs.Prelude.{◌∷◌, Option, Some, None}
use Rattle.cfn_fault.specs.Lines as lines
use Rattle.cfn_certtext.specs.Stages.{IsWhole, line_of_item, values_of}
use Rattle.cfn_record.specs.Lines.{RecordLine, Heading, Budget, Take, Give, Back, Recall, Sweep, Says}
use Rattle.cfn_replay.specs.declared.said.EventLine.{EventLine}
use Rattle.cfn_replay.specs.declared.said.EventLine.TheVariants as events
use Rattle.cfn_replay.specs.declared.said.Said.{Said}
use Rattle.cfn_replay.specs.declared.said.Said.TheVariants as saying

abbrev pub line_of_event : EventLine → RecordLine
line_of_event (events.Take worker want leaf grant) = Take worker want leaf grant
line_of_event (events.Give worker leaf grant threshold seen) = Give worker leaf grant threshold seen
line_of_event (events.Back worker leaf grant) = Back worker leaf grant
line_of_event events.Recall = Recall
line_of_event (events.Sweep seen) = Sweep seen

abbrev pub line_of_said : Said → RecordLine
line_of_said saying.Heading = Heading
line_of_said (saying.Budget budget) = Budget budget
line_of_said (saying.Event event) = line_of_event event
line_of_said (saying.Item item) = Says (line_of_item item)
line_of_said (saying.Values first others) = Says (lines.Values (first ∷ values_of others))

-- An item that was read is a whole line.
abbrev pub IsWholeSaid : Said → Type 0
IsWholeSaid saying.Heading = Unit {0}
IsWholeSaid (saying.Budget budget) = Unit {0}
IsWholeSaid (saying.Event event) = Unit {0}
IsWholeSaid (saying.Item item) = IsWhole item
IsWholeSaid (saying.Values first others) = Unit {0}

abbrev pub line_in : Option Said → Option RecordLine
line_in None = None
line_in (Some said) = Some (line_of_said said)

abbrev pub IsWholeIn : Option Said → Type 0
IsWholeIn None = Unit {0}
IsWholeIn (Some said) = IsWholeSaid said

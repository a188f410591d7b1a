-- Which line is due behind a line, with the version and numbers alone.
use Rattle.std.specs.Prelude.{ℕ, ◌+◌, ◌-◌, Bool, true, false, List, map, unwrap_or, Option, Some, None, if◌then◌else◌, ◌==◌}
use Rattle.cfn_model.specs.declared.step.Decision.{Decision}
use Rattle.cfn_model.specs.declared.step.Decision.TheVariants.{Is, Most}
use Rattle.cfn_model.specs.declared.version.Version.{Version}
use Rattle.cfn_model.specs.declared.version.Version.TheVariants.{First, Second}
use Rattle.cfn_fault.specs.Nodes as tree
use Rattle.cfn_fault.specs.Lines as lines
use Rattle.cfn_fault.specs.Lines.{Line}
use Rattle.cfn_fault.specs.Decoding.{numeral}
use Rattle.cfn_certtext.specs.declared.event.Item.{Item}
use Rattle.cfn_certtext.specs.declared.event.Item.TheVariants as items
use Rattle.cfn_certtext.specs.declared.stage.Stage.{Stage}
use Rattle.cfn_certtext.specs.declared.stage.Stage.TheVariants as stages
use Rattle.cfn_certtext.specs.Reading.{step_of, decision_of}

-- How many trees are still to come after a line of a node.
abbrev pub owed_after : ℕ → tree.Item → ℕ
owed_after owed (tree.Makes step) = owed
owed_after owed tree.LeavesOpen = owed - 1
owed_after owed tree.Closes = owed - 1
owed_after owed (tree.Splits d) = owed + 1

-- Whether a version has a line for a decision, and for an item.
abbrev pub has_decision : Version → Decision → Bool
has_decision First (Is x a) = true
has_decision First (Most x v) = false
has_decision Second (Is x a) = true
has_decision Second (Most x v) = true

abbrev pub has_item : Version → tree.Item → Bool
has_item version (tree.Makes step) = true
has_item version tree.LeavesOpen = true
has_item version tree.Closes = true
has_item version (tree.Splits d) = has_decision version d

abbrev pub node_stage : Version → ℕ → tree.Item → Option Stage
node_stage version owed item =
    if owed == 0 then None else (if has_item version item then Some (stages.Nodes version (owed_after owed item)) else None)

abbrev pub end_stage : ℕ → Option Stage
end_stage owed = if owed == 0 then Some stages.Over else None

-- What is due behind a line that may come where a stage says.
abbrev pub next_stage : Stage → Line → Option Stage
next_stage stages.Version (lines.Version version) = Some (stages.Network version)
next_stage (stages.Network version) (lines.Numbers n e upper) = Some (stages.Lower version)
next_stage (stages.Lower version) (lines.Lower lower) = Some (stages.Best version)
next_stage (stages.Best version) lines.NoBest = Some (stages.Tree version)
next_stage (stages.Best version) (lines.Best cost) = Some (stages.Values version)
next_stage (stages.Values version) (lines.Values values) = Some (stages.Tree version)
next_stage (stages.Tree version) lines.Root = Some (stages.Nodes version 1)
next_stage (stages.Nodes version owed) (lines.Node item) = node_stage version owed item
next_stage (stages.Nodes version owed) lines.End = end_stage owed
next_stage stage l = None

-- How many trees a stage owes.
abbrev pub owed_of : Stage → ℕ
owed_of stages.Version = 0
owed_of (stages.Network version) = 0
owed_of (stages.Lower version) = 0
owed_of (stages.Best version) = 0
owed_of (stages.Values version) = 0
owed_of (stages.Tree version) = 0
owed_of (stages.Nodes version owed) = owed
owed_of stages.Over = 0
owed_of stages.Failed = 0

-- The line of an item that is a whole line.
abbrev pub IsWhole : Item → Type 0
IsWhole (items.Version version) = Unit {0}
IsWhole (items.Network n e upper) = Unit {0}
IsWhole (items.Lower lower) = Unit {0}
IsWhole items.NoBest = Unit {0}
IsWhole (items.Best cost) = Unit {0}
IsWhole (items.Value a) = ⊥
IsWhole items.Tree = Unit {0}
IsWhole (items.Step step) = Unit {0}
IsWhole items.Open = Unit {0}
IsWhole items.Closed = Unit {0}
IsWhole (items.Split decision) = Unit {0}
IsWhole items.End = Unit {0}
IsWhole items.Over = ⊥

abbrev pub line_of_item : Item → Line
line_of_item (items.Version version) = lines.Version version
line_of_item (items.Network n e upper) = lines.Numbers n e upper
line_of_item (items.Lower lower) = lines.Lower lower
line_of_item items.NoBest = lines.NoBest
line_of_item (items.Best cost) = lines.Best cost
line_of_item (items.Value a) = lines.End
line_of_item items.Tree = lines.Root
line_of_item (items.Step step) = lines.Node (tree.Makes (step_of step))
line_of_item items.Open = lines.Node tree.LeavesOpen
line_of_item items.Closed = lines.Node tree.Closes
line_of_item (items.Split decision) = lines.Node (tree.Splits (decision_of decision))
line_of_item items.End = lines.End
line_of_item items.Over = lines.End

-- The numbers that words are.
abbrev pub value_of : List ℕ → ℕ
value_of word = unwrap_or (numeral word) 0

abbrev pub values_of : List (List ℕ) → List ℕ
values_of words = map value_of words

-- Which lines are those of nodes, and what they say with 32 bits for each number.
use Rattle.std.specs.Prelude.{◌≡◌, ℕ, List, Bool, true, false, Option, Some, None}
use Rattle.cfn_fault.specs.Nodes as tree
use Rattle.cfn_fault.specs.Lines as lines
use Rattle.cfn_certtext.specs.declared.event.Item.{Item}
use Rattle.cfn_certtext.specs.declared.event.Item.TheVariants as items
use Rattle.cfn_certtext.specs.Reading.{item_of, step_of, text_of_step, decision_of, text_of_decision}
use Rattle.cfn_record.specs.Lines.{RecordLine, Heading, Budget, Take, Give, Back, Recall, Sweep, Says}
use Rattle.cfn_replay.specs.declared.kinds.Numbers.{Numbers}
use Rattle.cfn_replay.specs.declared.said.EventLine.{EventLine}
use Rattle.cfn_replay.specs.declared.said.EventLine.TheVariants as events
use Rattle.cfn_replay.specs.Capping.{cap_step, cap_decision}

-- Whether an item is a line of a node, and whether a line is one.
abbrev pub is_node : Item → Bool
is_node (items.Step step) = true
is_node items.Open = true
is_node items.Closed = true
is_node (items.Split decision) = true
is_node item = false

abbrev pub is_of_tree : Option RecordLine → Bool
is_of_tree (Some (Says (lines.Node item))) = true
is_of_tree l = false

-- A line of a node, as it was read.
abbrev pub IsNodeLine : Item → Option RecordLine → Type 0
IsNodeLine item l = (it : tree.Item) × (item ≡ item_of (lines.Node it)) × (l ≡ Some (Says (lines.Node it)))

-- An item with 32 bits for each number, and how many splits and closed leaves it is.
abbrev pub cap_text : Item → Item
cap_text (items.Step step) = items.Step (text_of_step (cap_step (step_of step)))
cap_text (items.Split decision) = items.Split (text_of_decision (cap_decision (decision_of decision)))
cap_text item = item

abbrev pub made_text : Item → ℕ
made_text items.Closed = 1
made_text (items.Split decision) = 1
made_text item = 0

-- The lines before the events.
abbrev pub is_heading : Option RecordLine → Bool
is_heading (Some Heading) = true
is_heading l = false

abbrev pub numbers_in : Option RecordLine → Option Numbers
numbers_in (Some (Says (lines.Numbers n e upper))) = Some (record { variables = n; functions = e; upper = upper })
numbers_in l = None

abbrev pub budget_in : Option RecordLine → Option ℕ
budget_in (Some (Budget budget)) = Some budget
budget_in l = None

-- An event.
abbrev pub event_in : Option RecordLine → Option EventLine
event_in (Some (Take worker want leaf grant)) = Some (events.Take worker want leaf grant)
event_in (Some (Give worker leaf grant threshold seen)) = Some (events.Give worker leaf grant threshold seen)
event_in (Some (Back worker leaf grant)) = Some (events.Back worker leaf grant)
event_in (Some Recall) = Some events.Recall
event_in (Some (Sweep seen)) = Some (events.Sweep seen)
event_in l = None

-- The lines behind the events: the cost of the best assignment, or that there is none; its values; and the last line.
abbrev pub best_in : Option RecordLine → Option (Option ℕ)
best_in (Some (Says lines.NoBest)) = Some None
best_in (Some (Says (lines.Best cost))) = Some (Some cost)
best_in l = None

abbrev pub best_of : Item → Option (Option ℕ)
best_of items.NoBest = Some None
best_of (items.Best cost) = Some (Some cost)
best_of item = None

abbrev pub values_line : Option RecordLine → Option (List ℕ)
values_line (Some (Says (lines.Values values))) = Some values
values_line l = None

abbrev pub is_end : Option RecordLine → Bool
is_end (Some (Says lines.End)) = true
is_end l = false

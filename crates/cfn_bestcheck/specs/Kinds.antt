-- Which line was read, of those that may come.
use Rattle.std.specs.Prelude.{◌≡◌, ℕ, Bool, true, false, List, ◌∷◌, Option, Some, None}
use Rattle.cfn_fault.specs.Nodes as tree
use Rattle.cfn_fault.specs.Lines as lines
use Rattle.cfn_certtext.specs.declared.event.Item.{Item}
use Rattle.cfn_certtext.specs.declared.event.Item.TheVariants as items
use Rattle.cfn_certtext.specs.Reading.{item_of}
use Rattle.cfn_best.specs.Lines.{ListLine, Heading, Count, Lists, Says}
use Rattle.cfn_bestcheck.specs.declared.kinds.Numbers.{Numbers}
use Rattle.cfn_bestcheck.specs.declared.kinds.TreeLine.{TreeLine}
use Rattle.cfn_bestcheck.specs.declared.kinds.TreeLine.TheVariants.{Node, Listed}

abbrev pub is_heading : Option ListLine → Bool
is_heading (Some Heading) = true
is_heading l = false

abbrev pub numbers_in : Option ListLine → Option Numbers
numbers_in (Some (Says (lines.Numbers n e upper))) = Some (record { variables = n; functions = e; upper = upper })
numbers_in l = None

abbrev pub count_in : Option ListLine → Option ℕ
count_in (Some (Count count)) = Some count
count_in l = None

abbrev pub lower_in : Option ListLine → Option ℕ
lower_in (Some (Says (lines.Lower lower))) = Some lower
lower_in l = None

abbrev pub many_in : Option ListLine → Option ℕ
many_in (Some (Says (lines.Best many))) = Some many
many_in l = None

-- The cost and the values of an assignment, one at least.
abbrev pub values_in : Option ListLine → Option (ℕ × List ℕ)
values_in (Some (Says (lines.Values (cost ∷ a ∷ values)))) = Some (cost, a ∷ values)
values_in l = None

abbrev pub is_root : Option ListLine → Bool
is_root (Some (Says lines.Root)) = true
is_root l = false

abbrev pub is_end : Option ListLine → Bool
is_end (Some (Says lines.End)) = true
is_end l = false

-- Whether an item is a line of a tree, and whether a line is one.
abbrev pub is_node : Item → Bool
is_node (items.Step step) = true
is_node items.Open = true
is_node items.Closed = true
is_node (items.Split decision) = true
is_node item = false

abbrev pub is_of_tree : Option ListLine → Bool
is_of_tree (Some (Says (lines.Node item))) = true
is_of_tree (Some (Lists number)) = true
is_of_tree l = false

-- A line of a tree, as it was read.
abbrev pub IsTreeLine : TreeLine → Option ListLine → Type 0
IsTreeLine (Node item) l = (it : tree.Item) × (item ≡ item_of (lines.Node it)) × (l ≡ Some (Says (lines.Node it)))
IsTreeLine (Listed number) l = l ≡ Some (Lists number)

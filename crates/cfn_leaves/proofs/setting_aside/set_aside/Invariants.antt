use Rattle.std.proofs.Common.{length, Some}
use Rattle.cfn_machine.specs.Parts.{has_leaf}
use Rattle.cfn_leaves.proofs.Asides.{Goes}
use Rattle.cfn_leaves.proofs.setting_aside.set_aside.Given as goal

-- the part's own leaves so far are in a list of their own, and the others' are set aside
abbrev pub invariant-loop-leaf : goal.invariant-loop-leaf
invariant-loop-leaf l = Goes (has_leaf (Some l.part)) l.fn.table.items l.fn.list l.table.items l.own l.list

abbrev pub decreases-loop-leaf : goal.decreases-loop-leaf
decreases-loop-leaf l = length l.list.leaves

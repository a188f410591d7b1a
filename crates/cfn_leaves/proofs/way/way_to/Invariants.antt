use Rattle.std.proofs.Common.{◌<◌, List, length, reverse}
use Rattle.cfn_model.specs.declared.step.Event.{Event}
use Rattle.cfn_leaves.specs.Ways.{EndsAbove, Goes}
use Rattle.cfn_leaves.proofs.way.way_to.Given as goal

-- from the path above the node that the way has come to, it leads down to the node that was asked for
abbrev pub invariant-loop-parent : goal.invariant-loop-parent
invariant-loop-parent l = (l.at.number < length l.tree) × ((path : List Event) → EndsAbove l.tree l.at.number path → Goes l.tree l.fn.node.number path (reverse l.way.items))

abbrev pub decreases-loop-parent : goal.decreases-loop-parent
decreases-loop-parent l = l.at.number

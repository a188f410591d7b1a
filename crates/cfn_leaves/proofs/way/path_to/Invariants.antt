use Rattle.std.proofs.Common.{length, reverse}
use Rattle.cfn_leaves.specs.Ways.{Goes}
use Rattle.cfn_leaves.proofs.way.path_to.Given as goal

-- the way that is left leads from the path down to the node
abbrev pub invariant-loop-id : goal.invariant-loop-id
invariant-loop-id l = Goes l.tree l.fn.node.number l.path (reverse l.way.items)

abbrev pub decreases-loop-id : goal.decreases-loop-id
decreases-loop-id l = length l.way.items

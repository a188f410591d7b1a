use Rattle.std.proofs.Common.{◌↔◌, ◌<◌, length}
use Rattle.cfn_leaves.specs.Ways.{IsPathOf}
use Rattle.cfn_leaves.proofs.climb.is_at.Given as goal

-- the path is that of the node where the events that are left are that of the node that the walk has come to
abbrev pub invariant-loop-parent : goal.invariant-loop-parent
invariant-loop-parent l = record {
  there : l.at.number < length l.tree;
  same : IsPathOf l.tree l.fn.node.number l.path ↔ IsPathOf l.tree l.at.number l.left;
}

abbrev pub decreases-loop-parent : goal.decreases-loop-parent
decreases-loop-parent l = l.at.number

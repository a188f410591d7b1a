use Rattle.std.proofs.Common.{◌≡◌, ◌<◌, length}
use Rattle.cfn_certwrite.specs.Walk.{order_behind}
use Rattle.cfn_certwrite.proofs.walk.next_second.Given as goal

abbrev pub invariant-loop-parent : goal.invariant-loop-parent
invariant-loop-parent l = record {
  there : l.done.number < length l.tree;
  same : order_behind l.fn.tree l.fn.id.number ≡ order_behind l.tree l.done.number;
}

abbrev pub decreases-loop-parent : goal.decreases-loop-parent
decreases-loop-parent l = l.done.number

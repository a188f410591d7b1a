use Rattle.std.proofs.Common.{◌≤◌, length}
use Rattle.cfn_trim.proofs.end.emptied.Given as goal

abbrev pub invariant-loop-left : goal.invariant-loop-left
invariant-loop-left l = l.left ≤ length l.store.block

abbrev pub decreases-loop-left : goal.decreases-loop-left
decreases-loop-left l = l.left

use Rattle.std.proofs.Common.{◌≤◌, drop, length}
use Rattle.cfn_branch.specs.Weighing.{NoneProjects}
use Rattle.cfn_branch.proofs.weights.newest_project.Given as goal

abbrev pub invariant-loop-i : goal.invariant-loop-i
invariant-loop-i l = record {
  within : l.i ≤ length l.store.block;
  none : NoneProjects (drop l.i l.store.block);
}

abbrev pub decreases-loop-i : goal.decreases-loop-i
decreases-loop-i l = l.i

use Rattle.cfn_branch.proofs.Seconds.{AreTwoLeast}
use Rattle.cfn_branch.proofs.choosing.second_least.Given as goal

abbrev pub invariant-loop-i : goal.invariant-loop-i
invariant-loop-i l = AreTwoLeast l.store l.x l.values l.i l.least l.second

use Rattle.std.proofs.Common.{length}
use Rattle.cfn_vac.specs.declared.numbering.TheConstants.{NONE}
use Rattle.cfn_vac.proofs.Derived.{IsTaking}
use Rattle.cfn_vac.proofs.numbering.take_back.Given as goal

abbrev pub invariant-loop-deletion : goal.invariant-loop-deletion
invariant-loop-deletion l = IsTaking l.network NONE l.deletions l.left l.positions

abbrev pub decreases-loop-deletion : goal.decreases-loop-deletion
decreases-loop-deletion l = length l.left

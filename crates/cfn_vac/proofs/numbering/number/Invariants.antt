use Rattle.std.proofs.Common.{length}
use Rattle.cfn_vac.proofs.Derived.{IsNumbering}
use Rattle.cfn_vac.proofs.numbering.number.Given as goal

abbrev pub invariant-loop-deletion : goal.invariant-loop-deletion
invariant-loop-deletion l = IsNumbering l.network l.deletions l.left l.positions

abbrev pub decreases-loop-deletion : goal.decreases-loop-deletion
decreases-loop-deletion l = length l.left

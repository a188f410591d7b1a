use Rattle.std.proofs.Common.{◌≡◌}
use Rattle.cfn_due.specs.Dues.{falling}
use Rattle.cfn_due.proofs.due.put_falling.Given as goal

abbrev pub invariant-loop-i : goal.invariant-loop-i
invariant-loop-i l = l.queue ≡ record { size = l.size; items = falling l.size l.i }

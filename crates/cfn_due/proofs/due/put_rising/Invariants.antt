use Rattle.std.proofs.Common.{◌≡◌}
use Rattle.cfn_due.specs.Dues.{rising}
use Rattle.cfn_due.proofs.due.put_rising.Given as goal

abbrev pub invariant-loop-i : goal.invariant-loop-i
invariant-loop-i l = l.queue ≡ record { size = l.size; items = rising l.i }

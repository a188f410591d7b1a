use Rattle.std.proofs.Common.{◌≡◌, length}
use Rattle.cfn_derivation.proofs.work.empty.Given as goal

abbrev pub invariant-loop : goal.invariant-loop
invariant-loop l = l.queue.size ≡ l.initial.queue.size

abbrev pub decreases-loop : goal.decreases-loop
decreases-loop l = length l.queue.items

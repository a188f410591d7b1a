use Rattle.cfn_due.specs.Going.{ArePut}
use Rattle.cfn_due.proofs.Putting.{IsWithin}
use Rattle.cfn_due.proofs.due.put_scope.Given as goal

abbrev pub invariant-loop-x : goal.invariant-loop-x
invariant-loop-x l = ArePut l.initial.queue l.queue (IsWithin l.network l.f l.x-index)

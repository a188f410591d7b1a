use Rattle.cfn_due.specs.Going.{ArePut}
use Rattle.cfn_due.proofs.Putting.{Among, IsBeside}
use Rattle.cfn_due.proofs.due.put_near.Given as goal

abbrev pub invariant-loop-place : goal.invariant-loop-place
invariant-loop-place l = ArePut l.initial.queue l.queue (Among l.place-items (IsBeside l.network) l.place-index)

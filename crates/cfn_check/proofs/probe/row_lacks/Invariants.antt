use Rattle.cfn_check.proofs.Probing.{NoneBelow}
use Rattle.cfn_check.proofs.probe.row_lacks.Given as goal

-- behind the smaller values nothing is lacking
abbrev pub invariant-loop-value : goal.invariant-loop-value
invariant-loop-value l = NoneBelow l.network l.ledger.history l.asked l.spot l.x l.value

use Rattle.std.proofs.Common.{◌-◌}
use Rattle.cfn_model.specs.Network.{arity}
use Rattle.cfn_check.proofs.Probing.{NoneBelow}
use Rattle.cfn_check.proofs.probe.+lacks.Given as goal

-- the places that are left
abbrev pub decreases-lacks : goal.decreases-lacks
decreases-lacks l = arity l.network.now l.asked.function - l.spot.place

-- behind the smaller values nothing is lacking
abbrev pub invariant-loop-value : goal.invariant-loop-value
invariant-loop-value l = NoneBelow l.network l.ledger.history l.asked l.spot l.x l.value

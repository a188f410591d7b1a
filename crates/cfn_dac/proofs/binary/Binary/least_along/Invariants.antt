use Rattle.cfn_store.specs.Standing.{history}
use Rattle.cfn_dac.proofs.Planning.{IsLeastTo}
use Rattle.cfn_dac.proofs.binary.Binary.least_along.Given as goal

abbrev pub invariant-loop-other : goal.invariant-loop-other
invariant-loop-other l = IsLeastTo l.store.network (history l.store) l.fn.pair l.value l.other-items l.other-index l.least

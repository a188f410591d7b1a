use Rattle.cfn_store.specs.Standing.{history}
use Rattle.cfn_dac.proofs.Spreading.{IsShareTo}
use Rattle.cfn_dac.proofs.spread.share_along.Given as goal

abbrev pub invariant-loop-first : goal.invariant-loop-first
invariant-loop-first l = IsShareTo l.store.network (history l.store) l.fn.pair l.moves l.value l.first l.share

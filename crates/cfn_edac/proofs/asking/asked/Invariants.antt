use Rattle.cfn_store.specs.Standing.{history}
use Rattle.cfn_edac.specs.Asking.{Asks}
use Rattle.cfn_edac.proofs.Owing.{IsLow}
use Rattle.cfn_edac.proofs.asking.asked.Given as goal

abbrev pub invariant-loop-pair : goal.invariant-loop-pair
invariant-loop-pair l = record {
  asks : Asks l.store.network (history l.store) l.x l.pairs l.value l.pair-index l.sum;
  low : IsLow l.store.network (history l.store) l.x l.pairs l.value l.pair-index l.sum;
}

use Rattle.cfn_dac.specs.Going.{Gathers}
use Rattle.cfn_dac.proofs.Collecting.{IsCollecting}
use Rattle.cfn_dac.proofs.collect.collect.Given as goal

abbrev pub invariant-loop-value : goal.invariant-loop-value
invariant-loop-value l = record {
  collecting : IsCollecting l.initial.store l.store l.limits l.pair l.moves l.value;
  gathers : Gathers l.initial.store l.store l.limits.threshold l.pair l.moves l.value;
}

use Rattle.cfn_dac.specs.Going.{Fills}
use Rattle.cfn_dac.proofs.Spreading.{IsSpreading}
use Rattle.cfn_dac.proofs.spread.spread.Given as goal

abbrev pub invariant-loop-value : goal.invariant-loop-value
invariant-loop-value l = record {
  spreading : IsSpreading l.initial.store l.store l.limits l.pair l.moves l.value;
  fills : Fills l.initial.store l.store l.limits.threshold l.pair l.moves 0 l.value;
}

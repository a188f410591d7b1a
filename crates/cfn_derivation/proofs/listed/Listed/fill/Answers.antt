use Rattle.std.proofs.Common.{ap, ◌∙◌}
use Rattle.cfn_derivation.proofs.Going.{with_all, with_size}
use Rattle.cfn_derivation.proofs.listed.Listed.fill.Goals as goal

pub loop-number-preserved : goal.loop-number-preserved
loop-number-preserved c = record {
  size = ap (λ w. w.size) c.put.ensures ∙ with_size c.loop-number.self c.loop-number.number ∙ c.loop-number.invariant.size;
  all = λ i h. with_all c.loop-number.self c.put.new.self c.loop-number.number c.put.ensures c.loop-number.invariant.all i h;
}

use Rattle.std.proofs.Common.{sym, subst, arith}
use Rattle.cfn_model.specs.Steps.{InRange}
use Rattle.cfn_trim.proofs.Ranges.{step_range}
use Rattle.cfn_trim.proofs.needs.Needs.gather.Goals as goal

pub forget-requires : goal.forget-requires
forget-requires c = record {
  range = subst (λ P. InRange P c.step.result) (sym c.loop-i.invariant)
      (step_range c.args.self.now c.args.store.now.block c.loop-i.i c.step.result c.requires.range (let n = c.block_len-count.ensures in let l = c.loop-i-test.true in omega (arith, n, l)) c.step.ensures);
}

pub add-requires : goal.add-requires
add-requires c = record {
  range = subst (λ P. InRange P c.step-in-loop-i-2.result) (sym c.loop-i-2.invariant)
      (step_range c.args.self.now c.args.store.now.block c.loop-i-2.i c.step-in-loop-i-2.result c.requires.range (let n = c.block_len-count.ensures in let l = c.loop-i-2-test.true in omega (arith, n, l)) c.step-in-loop-i-2.ensures);
}

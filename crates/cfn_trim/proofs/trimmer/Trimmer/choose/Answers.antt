use Rattle.std.proofs.Common.{◌-◌, sym, subst, arith}
use Rattle.cfn_model.specs.Steps.{InRange}
use Rattle.cfn_trim.proofs.Ranges.{step_range}
use Rattle.cfn_trim.proofs.trimmer.Trimmer.choose.Goals as goal

pub judge-needed-requires-clause-range : goal.judge-needed-requires-clause-range
judge-needed-requires-clause-range c =
    subst (λ P. InRange P c.step.result) (sym c.loop-left.invariant.network)
    (step_range c.args.self.now c.args.store.now.block (c.loop-left.left - 1) c.step.result c.requires.range (let within = c.loop-left.invariant.within in let some = c.loop-left-test.true in omega (arith, within, some)) c.step.ensures)

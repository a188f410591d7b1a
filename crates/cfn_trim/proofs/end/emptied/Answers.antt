use Rattle.std.proofs.Common.{◌-◌, arith}
use Rattle.cfn_trim.proofs.Ranges.{step_range}
use Rattle.cfn_trim.proofs.end.emptied.Goals as goal

pub emptied_by-requires : goal.emptied_by-requires
emptied_by-requires c = record {
  range = step_range c.args.store.now.network c.args.store.now.block (c.loop-left.left - 1) c.step.result c.requires.range (let within = c.loop-left.invariant in let some = c.loop-left-test.true in omega (arith, within, some)) c.step.ensures;
}

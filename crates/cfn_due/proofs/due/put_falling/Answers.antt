use Rattle.std.proofs.Common.{◌∙◌}
use Rattle.cfn_due.proofs.Filling.{falling_more}
use Rattle.cfn_due.proofs.due.put_falling.Goals as goal

pub loop-i-preserved : goal.loop-i-preserved
loop-i-preserved c = c.put.ensures ∙ falling_more c.args.size c.args.size c.loop-i.i c.loop-i.queue c.loop-i-test.true c.loop-i.invariant

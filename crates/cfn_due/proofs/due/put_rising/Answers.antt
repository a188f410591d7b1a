use Rattle.std.proofs.Common.{◌∙◌}
use Rattle.cfn_due.proofs.Filling.{rising_more}
use Rattle.cfn_due.proofs.due.put_rising.Goals as goal

pub loop-i-preserved : goal.loop-i-preserved
loop-i-preserved c = c.put.ensures ∙ rising_more c.args.size c.loop-i.i c.loop-i.queue c.loop-i.invariant

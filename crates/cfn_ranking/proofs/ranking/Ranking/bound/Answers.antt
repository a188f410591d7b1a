use Rattle.cfn_ranking.proofs.Ends.{least_more}
use Rattle.cfn_ranking.proofs.ranking.Ranking.bound.Goals as goal

pub loop-i-preserved : goal.loop-i-preserved
loop-i-preserved c = least_more c.args.self.now c.loop-i.i c.loop-i.least c.lesser_at-least.result c.loop-i.invariant c.lesser_at-least.ensures

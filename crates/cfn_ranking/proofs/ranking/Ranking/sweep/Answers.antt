use Rattle.std.proofs.Common.{length, arith, ap}
use Rattle.cfn_ranking.specs.Ranked.{Ranked}
use Rattle.cfn_ranking.proofs.Ends.{swept_more, swept_start, swept_end}
use Rattle.cfn_ranking.proofs.ranking.Ranking.sweep.Goals as goal

pub loop-i-init : goal.loop-i-init
loop-i-init c = swept_start c.args.network.now c.args.self.now c.requires.ranked

pub loop-i-preserved : goal.loop-i-preserved
loop-i-preserved c = swept_more c.args.network.now c.args.self.now c.loop-i.self c.sweep_at.new.self c.loop-i.i c.loop-i.invariant c.sweep_at.ensures

pub returns : goal.returns
returns c = record {
  swept = swept_end c.args.network.now c.args.self.now c.loop-i.i c.loop-i.self (let v = ap (λ (r : Ranked). length r.nodes) c.self.view_is in let e = c.len-i-end.ensures in let f = c.loop-i-test.false in omega (arith, v, e, f)) c.loop-i.invariant;
}

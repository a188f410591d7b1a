use Rattle.std.proofs.Common.{◌+◌, ◌∙◌, refl, arith}
use Rattle.cfn_pool.specs.Views.{pool}
use Rattle.cfn_search.proofs.Laying.{lays_more}
use Rattle.cfn_search.proofs.board.Board.fill.Goals as goal

pub loop-preserved : goal.loop-preserved
loop-preserved g c = record {
  lays = lays_more g.M.Incumbent.network c.args.worker c.args.want c.loop.counter (c.loop.counter + 1) (pool c.args.self.now.held) (pool c.loop.self.held) (pool c.lay.new.self.held) c.args.lanes.now c.loop.lanes c.lay.new.lanes c.loop.more
      (omega arith) c.loop.invariant.lays (c.if-not-lay.ensures.lays refl);
  stopped = c.if-not-lay.ensures.stopped ∙ c.loop.invariant.stopped;
}

use Rattle.std.proofs.Common.{◌≡◌}
use Rattle.cfn_pool.specs.Views.{pool}
use Rattle.cfn_search.specs.Boards.{Lays}
use Rattle.cfn_search.proofs.board.Board.fill.Given as goal

-- so many leaves at most are taken so far
abbrev pub invariant-loop : goal.invariant-loop
invariant-loop g l = record {
  lays : Lays g.M.Incumbent.network l.worker l.want l.counter (pool l.fn.self.held) l.fn.lanes l.more (pool l.self.held) l.lanes;
  stopped : l.self.stopped ≡ l.fn.self.stopped;
}

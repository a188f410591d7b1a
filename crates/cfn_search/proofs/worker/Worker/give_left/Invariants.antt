use Rattle.std.proofs.Common.{◌≡◌, ◌-◌, length}
use Rattle.cfn_pool.specs.Views.{pool}
use Rattle.cfn_search.specs.Searching.{GoesOn, StaysReady}
use Rattle.cfn_search.proofs.worker.Worker.give_left.Given as goal

abbrev pub invariant-loop-task : goal.invariant-loop-task
invariant-loop-task g l = record {
  goes : GoesOn g.M.Incumbent.start (pool l.fn.held) (pool l.held);
  ready : StaysReady l.fn.held l.held;
  whole : l.self.ends.lane.parts ≡ 128;
  least : l.self.least ≡ l.fn.self.least;
}

-- what was pushed and not yet taken
abbrev pub decreases-loop-task : goal.decreases-loop-task
decreases-loop-task g l = length l.self.ends.lane.pushed - length l.self.ends.lane.taken

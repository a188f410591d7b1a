use Rattle.std.proofs.Common.{◌≡◌, ◌-◌, ◌≤◌}
use Rattle.cfn_pool.specs.Views.{pool}
use Rattle.cfn_search.specs.Searching.{GoesOn, StaysReady}
use Rattle.cfn_search.specs.Granting.{IsLimit}
use Rattle.cfn_search.proofs.search.dive_all.Given as goal

abbrev pub invariant-loop-next : goal.invariant-loop-next
invariant-loop-next g l = record {
  goes : GoesOn g.M.Incumbent.start (pool l.fn.held) (pool l.held);
  ready : StaysReady l.fn.held l.held;
  within : (pool l.held).nodes ≤ (pool l.held).budget;
  shares : l.account.part.shares ≡ l.fn.account.part.shares;
  falls : l.account.least ≤ l.fn.account.least;
  explorer : g.E.Explore.made_of l.explorer ≡ g.E.Explore.made_of l.fn.explorer;
  limit : IsLimit l.limit;
}

abbrev pub decreases-loop-next : goal.decreases-loop-next
decreases-loop-next g l = (pool l.held).budget - (pool l.held).nodes

use Rattle.std.proofs.Common.{◌≡◌, ◌+◌, ◌≤◌, ◌++◌, length, map, reverse, All, vec_capacity}
use Rattle.cfn_machine.specs.Word.{all_shares}
use Rattle.cfn_pool.specs.Views.{pool}
use Rattle.cfn_rota.specs.Values.{AreAll}
use Rattle.cfn_search.specs.Accounts.{least_of, reach}
use Rattle.cfn_search.specs.Searching.{IsSearch, StaysReady}
use Rattle.cfn_search.proofs.team.end_workers.Given as goal

abbrev pub invariant-loop-worker : goal.invariant-loop-worker
invariant-loop-worker g l = record {
  search : IsSearch g.M.Incumbent.start (pool l.held);
  ready : StaysReady l.fn.held l.held;
  budget : (pool l.held).budget ≡ (pool l.fn.held).budget;
  shares : (pool l.held).view.shares + length l.crew.items ≡ all_shares;
  all : AreAll (map reach l.crew.items);
  count : length l.crew.items + length l.thresholds.items ≡ length l.fn.crew.items;
  told : map least_of l.crew.items ++ reverse l.thresholds.items ≡ map least_of l.fn.crew.items;
  room : length l.fn.crew.items ≤ vec_capacity l.thresholds;
  most : All (λ k. k ≤ g.M.Incumbent.network.upper) l.thresholds.items;
  least : All (λ k. (pool l.held).view.seen ≤ k) l.thresholds.items;
}

abbrev pub decreases-loop-worker : goal.decreases-loop-worker
decreases-loop-worker g l = length l.crew.items

use Rattle.std.proofs.Common.{◌≡◌, ◌≤◌}
use Rattle.cfn_search.specs.Accounts.{reach}
use Rattle.cfn_search.proofs.worker.Worker.dive_all.Given as goal

abbrev pub invariant-loop : goal.invariant-loop
invariant-loop g l = record {
  next : (goal.iterator-loop g).can_next l.iterator';
  finite : (goal.iterator-loop g).is_finite l.iterator';
  explorer : g.E.Explore.made_of l.explorer ≡ g.E.Explore.made_of l.fn.explorer;
  same : reach l.self ≡ reach l.fn.self;
  falls : l.self.least ≤ l.fn.self.least;
}

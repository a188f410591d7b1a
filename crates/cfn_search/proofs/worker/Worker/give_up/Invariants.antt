use Rattle.std.proofs.Common.{◌≡◌}
use Rattle.cfn_rota.specs.Values.{access}
use Rattle.cfn_search.specs.Granting.{IsLimit}
use Rattle.cfn_search.proofs.worker.Worker.give_up.Given as goal

abbrev pub invariant-loop : goal.invariant-loop
invariant-loop g l = record {
  next : (goal.iterator-loop g).can_next l.iterator';
  finite : (goal.iterator-loop g).is_finite l.iterator';
  share : l.self-inside.account.part.shares ≡ 1;
  limit : IsLimit l.self-inside.limit;
  same : access l.self-inside.lanes ≡ access l.fn.self.ends;
  least : l.self-inside.account.least ≡ l.fn.self.least;
}

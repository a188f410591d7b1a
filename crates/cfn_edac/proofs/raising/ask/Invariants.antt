use Rattle.std.proofs.Common.{◌≡◌, ◌⊎◌, ◌≤◌, ◌<◌, ◌+◌}
use Rattle.cfn_model.specs.Sums.{floor}
use Rattle.cfn_store.specs.Standing.{history}
use Rattle.cfn_edac.specs.Owing.{IsAskedBy}
use Rattle.cfn_edac.proofs.Owing.{ListComesTo}
use Rattle.cfn_edac.proofs.raising.ask.Given as goal

abbrev pub invariant-loop-value : goal.invariant-loop-value
invariant-loop-value l = record {
  some : 0 < l.least;
  come : ListComesTo l.store.network (history l.store) l.x l.pairs l.value-items l.value-index l.least;
  least : IsAskedBy l.store.network (history l.store) l.x l.pairs l.least ⊎ (floor l.store.network (history l.store) + l.least ≡ l.fn.limits.threshold);
  below : floor l.store.network (history l.store) + l.least ≤ l.fn.limits.threshold;
}

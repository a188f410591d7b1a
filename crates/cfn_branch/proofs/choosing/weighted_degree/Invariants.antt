use Rattle.std.proofs.Common.{◌≡◌, ◌+◌, ◌*◌, ◌≤◌, take}
use Rattle.std.specs.Prelude.{sum_by}
use Rattle.cfn_incidence.specs.Places.{places_of}
use Rattle.cfn_branch.specs.declared.weights.TheConstants.{MOST_WEIGHT}
use Rattle.cfn_branch.specs.Choosing.{weight_where_open}
use Rattle.cfn_branch.proofs.choosing.weighted_degree.Given as goal

abbrev pub invariant-loop-place : goal.invariant-loop-place
invariant-loop-place l = record {
  is : l.sum ≡ 1 + sum_by (weight_where_open l.store l.weights) (take l.place-index (places_of l.store.network l.x));
  small : l.sum ≤ 1 + l.place-index * MOST_WEIGHT;
}

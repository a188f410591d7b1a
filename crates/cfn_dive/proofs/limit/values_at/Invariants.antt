use Rattle.std.proofs.Common.{◌≡◌, ◌+◌, ◌≤◌, drop, sum_by}
use Rattle.std.specs.Prelude.{min, slice_index}
use Rattle.cfn_model.specs.Network.{scope_at}
use Rattle.cfn_dive.specs.Limit.{values_of}
use Rattle.cfn_dive.proofs.limit.values_at.Given as goal

abbrev pub invariant-loop-x : goal.invariant-loop-x
invariant-loop-x l = record {
  rest : min 1048576 (l.total + sum_by (slice_index l.network.sizes) (drop l.x-index (scope_at l.network l.f))) ≡ min 1048576 (values_of l.network (scope_at l.network l.f));
  small : l.total ≤ 1048576;
}

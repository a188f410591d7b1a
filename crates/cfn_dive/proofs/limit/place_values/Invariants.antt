use Rattle.std.proofs.Common.{◌≡◌, ◌+◌, ◌≤◌, drop, sum_by}
use Rattle.std.specs.Prelude.{min}
use Rattle.cfn_model.specs.Network.{Function}
use Rattle.cfn_dive.specs.Limit.{values_of}
use Rattle.cfn_dive.proofs.limit.place_values.Given as goal

abbrev pub invariant-loop-f : goal.invariant-loop-f
invariant-loop-f l = record {
  rest : min 1048576 (l.total + sum_by (λ (f : Function). values_of l.network f.scope) (drop l.f l.network.functions)) ≡ min 1048576 (sum_by (λ (f : Function). values_of l.network f.scope) l.network.functions);
  small : l.total ≤ 1048576;
}

use Rattle.std.proofs.Common.{◌≡◌, ◌+◌, ◌≤◌, drop, sum_by}
use Rattle.std.specs.Prelude.{min}
use Rattle.cfn_dive.proofs.limit.variable_values.Given as goal

abbrev pub invariant-loop-x : goal.invariant-loop-x
invariant-loop-x l = record {
  rest : min 1048576 (l.total + sum_by (λ size. size) (drop l.x l.network.sizes)) ≡ min 1048576 (sum_by (λ size. size) l.network.sizes);
  small : l.total ≤ 1048576;
}

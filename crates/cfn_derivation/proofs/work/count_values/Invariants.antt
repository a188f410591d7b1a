use Rattle.std.proofs.Common.{◌≡◌, ◌*◌, ◌≤◌}
use Rattle.cfn_derivation.specs.Derived.{values_of}
use Rattle.cfn_derivation.proofs.work.count_values.Given as goal

abbrev pub invariant-loop-x : goal.invariant-loop-x
invariant-loop-x l = record {
  is : l.count ≡ values_of l.network l.x;
  few : l.count ≤ 4096 * l.x;
}

use Rattle.std.proofs.Common.{◌≡◌}
use Rattle.cfn_store.specs.Standing.{Standing}
use Rattle.cfn_gain.specs.Settling.{AddsSteps}
use Rattle.cfn_gain.specs.Passes.{IsCutting}
use Rattle.cfn_gain.proofs.nodes.cut.Given as goal

abbrev pub invariant-loop-x : goal.invariant-loop-x
invariant-loop-x l = record {
  same : l.store.network ≡ l.network;
  cutting : (before : Standing) → AddsSteps before l.initial.store l.k l.limit → IsCutting before l.store l.k l.limit l.lacks l.x 0;
  some : Standing;
  adds : AddsSteps some l.initial.store l.k l.limit;
}

abbrev pub invariant-loop-a : goal.invariant-loop-a
invariant-loop-a l = record {
  same : l.store.network ≡ l.network;
  cutting : (before : Standing) → AddsSteps before l.fn.store l.k l.limit → IsCutting before l.store l.k l.limit l.lacks l.x l.a;
  some : Standing;
  adds : AddsSteps some l.fn.store l.k l.limit;
}

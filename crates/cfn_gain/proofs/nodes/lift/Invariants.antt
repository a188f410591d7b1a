use Rattle.std.proofs.Common.{◌≡◌}
use Rattle.cfn_gain.specs.Passes.{IsLifting}
use Rattle.cfn_gain.proofs.nodes.lift.Given as goal

abbrev pub invariant-loop-x : goal.invariant-loop-x
invariant-loop-x l = record {
  same : l.store.network ≡ l.network;
  lifting : IsLifting l.initial.store l.store l.k l.limit l.x;
}

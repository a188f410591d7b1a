use Rattle.std.proofs.Common.{◌≡◌}
use Rattle.cfn_settled_tests.proofs.settling.fault_along.Given as goal

-- the store and the enforcer are the network's
abbrev pub invariant-loop-threshold : goal.invariant-loop-threshold
invariant-loop-threshold l = record {
  store : l.store.network ≡ l.network;
  enforcer : l.enforcer ≡ l.network;
}

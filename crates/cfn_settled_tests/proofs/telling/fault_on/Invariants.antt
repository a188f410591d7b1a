use Rattle.std.proofs.Common.{◌≡◌}
use Rattle.cfn_settled_tests.proofs.telling.fault_on.Given as goal

-- the store stands where it stood
abbrev pub invariant-loop-value : goal.invariant-loop-value
invariant-loop-value l = l.store ≡ l.initial.store

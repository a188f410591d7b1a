use Rattle.std.proofs.Common.{◌≡◌}
use Rattle.cfn_settled_tests.proofs.telling.fault_of.Given as goal

-- the store stands where it stood
abbrev pub invariant-loop-f : goal.invariant-loop-f
invariant-loop-f l = l.store ≡ l.initial.store

use Rattle.std.proofs.Common.{◌≡◌}
use Rattle.cfn_settled_tests.proofs.telling.fault_in.Given as goal

-- the store stands where it stood
abbrev pub invariant-loop-place : goal.invariant-loop-place
invariant-loop-place l = l.store ≡ l.initial.store

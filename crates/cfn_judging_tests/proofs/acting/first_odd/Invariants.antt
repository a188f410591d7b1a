use Rattle.std.proofs.Common.{◌≡◌}
use Rattle.cfn_judging_tests.proofs.acting.first_odd.Given as goal

-- the ledger stays with its network
abbrev pub invariant-loop-place : goal.invariant-loop-place
invariant-loop-place l = l.ledger.network ≡ l.network

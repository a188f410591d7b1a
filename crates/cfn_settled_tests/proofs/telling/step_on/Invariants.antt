use Rattle.std.proofs.Common.{◌≤◌, length}
use Rattle.cfn_settled_tests.proofs.telling.step_on.Given as goal

-- a place of the scope and of the tuple, or the end of one of them
abbrev pub invariant-loop-place : goal.invariant-loop-place
invariant-loop-place l = record {
  scope : l.place ≤ length l.scope;
  tuple : l.place ≤ length l.tuple;
}

abbrev pub decreases-loop-place : goal.decreases-loop-place
decreases-loop-place l = l.place

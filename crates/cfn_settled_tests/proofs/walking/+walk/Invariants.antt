use Rattle.std.proofs.Common.{◌≤◌}
use Rattle.cfn_store.specs.Marking.{IsBehind}
use Rattle.cfn_settled_tests.proofs.walking.+walk.Given as goal

-- how many turns there may be
abbrev pub decreases-walk : goal.decreases-walk
decreases-walk l = l.turns

-- the store has gone on from where it stood
abbrev pub invariant-loop-left : goal.invariant-loop-left
invariant-loop-left l = record {
  behind : IsBehind l.initial.store l.store;
  fewer : l.left ≤ l.turns;
}

abbrev pub decreases-loop-left : goal.decreases-loop-left
decreases-loop-left l = l.left

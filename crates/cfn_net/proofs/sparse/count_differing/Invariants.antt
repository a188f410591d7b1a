use Rattle.std.proofs.Common.{◌≡◌, ◌+◌, ◌≤◌, drop}
use Rattle.cfn_net.specs.Listed.{differing}
use Rattle.cfn_net.proofs.sparse.count_differing.Given as goal

-- the count so far and the differing entries that are left are all
abbrev pub invariant-loop-entry : goal.invariant-loop-entry
invariant-loop-entry l = record {
  rest : l.differing + differing l.default (drop l.entry-index l.entries) ≡ differing l.default l.entries;
  most : l.differing ≤ l.entry-index;
}

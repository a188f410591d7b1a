use Rattle.std.proofs.Common.{MatchOption}
use Rattle.cfn_scan.specs.Rows.{NoneBelow, IsLeastBelow}
use Rattle.cfn_scan.proofs.rows.least_below.Given as goal

-- what was found is of the entries so far
abbrev pub invariant-loop-i : goal.invariant-loop-i
invariant-loop-i l = MatchOption l.least (NoneBelow l.i l.entries l.bound) (IsLeastBelow l.i l.entries l.shifted l.bound)

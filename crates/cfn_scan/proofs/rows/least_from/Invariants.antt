use Rattle.cfn_scan.specs.Rows.{IsLeastOpen}
use Rattle.cfn_scan.proofs.rows.least_from.Given as goal

-- what was found is of the places so far
abbrev pub invariant-loop-i : goal.invariant-loop-i
invariant-loop-i l = IsLeastOpen l.i l.row l.best

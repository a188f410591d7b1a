use Rattle.cfn_scan.specs.Rows.{NoneOpen}
use Rattle.cfn_scan.proofs.rows.least_open.Given as goal

-- none of the places so far is open
abbrev pub invariant-loop-i : goal.invariant-loop-i
invariant-loop-i l = NoneOpen l.i l.row

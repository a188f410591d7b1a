use Rattle.cfn_scan.proofs.Scans.{Tails}
use Rattle.cfn_scan.proofs.scan.Scan.tail.Given as goal

abbrev pub invariant-loop-x : goal.invariant-loop-x
invariant-loop-x l = Tails l.self l.rest l.initial.end l.x-index l.tuples l.end

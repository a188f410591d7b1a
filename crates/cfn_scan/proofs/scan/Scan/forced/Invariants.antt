use Rattle.std.proofs.Common.{length, ◌-◌}
use Rattle.cfn_scan.proofs.Scans.{Passed}
use Rattle.cfn_scan.proofs.scan.Scan.forced.Given as goal

abbrev pub invariant-loop-passed : goal.invariant-loop-passed
invariant-loop-passed l = Passed l.self l.scope l.initial.spot l.passed l.spot

abbrev pub decreases-loop-passed : goal.decreases-loop-passed
decreases-loop-passed l = length l.scope - l.passed

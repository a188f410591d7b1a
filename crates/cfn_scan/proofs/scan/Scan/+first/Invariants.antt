use Rattle.std.proofs.Common.{length}
use Rattle.cfn_scan.proofs.Scans.{FirstOf}
use Rattle.cfn_scan.proofs.scan.Scan.+first.Given as goal

-- a call goes on with fewer variables
abbrev pub decreases-first : goal.decreases-first
decreases-first l = length l.scope.now

abbrev pub invariant-loop-value : goal.invariant-loop-value
invariant-loop-value l = FirstOf l.self l.x l.rest l.spot l.value-items l.value-index l.first

use Rattle.std.proofs.Common.{length}
use Rattle.cfn_scan.proofs.scan.Scan.+at.Given as goal

abbrev pub decreases-at : goal.decreases-at
decreases-at l = length l.scope.now

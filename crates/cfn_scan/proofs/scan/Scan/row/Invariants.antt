use Rattle.std.proofs.Common.{drop}
use Rattle.cfn_scan.specs.Scanning.{found_in, IsBest}
use Rattle.cfn_scan.proofs.Scans.{FirstOf}
use Rattle.cfn_scan.proofs.scan.Scan.row.Given as goal

abbrev pub invariant-loop-value : goal.invariant-loop-value
invariant-loop-value l = IsBest l.best × FirstOf l.self l.x (drop 1 l.scope) l.spot l.value-items l.value-index (found_in l.self.sense l.best)

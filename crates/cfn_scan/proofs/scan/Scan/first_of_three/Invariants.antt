use Rattle.std.proofs.Common.{[], ◌∷◌, ◌<◌}
use Rattle.cfn_scan.specs.Reading.{start}
use Rattle.cfn_scan.specs.Scanning.{IsBest, found_in}
use Rattle.cfn_scan.proofs.Scans.{FirstOf}
use Rattle.cfn_scan.proofs.scan.Scan.first_of_three.Given as goal

abbrev pub invariant-loop-value : goal.invariant-loop-value
invariant-loop-value l = record {
  is_best : IsBest l.best;
  some : 0 < l.best.key;
  first : FirstOf l.self l.x (l.y ∷ l.z ∷ []) start l.value-items l.value-index (found_in l.self.sense l.best);
}

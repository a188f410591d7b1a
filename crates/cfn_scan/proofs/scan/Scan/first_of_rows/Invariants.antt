use Rattle.std.proofs.Common.{[], ◌∷◌}
use Rattle.cfn_scan.proofs.Threes.{Carries}
use Rattle.cfn_scan.proofs.scan.Scan.first_of_rows.Given as goal

abbrev pub invariant-loop-value : goal.invariant-loop-value
invariant-loop-value l = Carries l.self l.y (l.z ∷ []) l.spot l.seconds l.value-index l.fn.best l.least

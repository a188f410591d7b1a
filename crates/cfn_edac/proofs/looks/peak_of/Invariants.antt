use Rattle.cfn_edac.proofs.Leveled.{PeakTo}
use Rattle.cfn_edac.proofs.looks.peak_of.Given as goal

abbrev pub invariant-loop-value : goal.invariant-loop-value
invariant-loop-value l = PeakTo l.store l.x l.value-items l.value-index l.peak l.has_free

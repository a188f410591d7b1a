use Rattle.cfn_edac.specs.Gathering.{AreMarks}
use Rattle.cfn_edac.proofs.neighbours.unmark.Given as goal

abbrev pub invariant-loop-pair : goal.invariant-loop-pair
invariant-loop-pair l = AreMarks l.network l.met l.pairs l.pair-index

use Rattle.cfn_ranking.specs.Finished.{AreNumberedSoFar}
use Rattle.cfn_ranking.proofs.finishing.number_all.Given as goal

-- the leaves so far have the number of a place
abbrev pub invariant-loop-j : goal.invariant-loop-j
invariant-loop-j l = AreNumberedSoFar l.leaves l.j l.initial.numbers.items l.numbers.items

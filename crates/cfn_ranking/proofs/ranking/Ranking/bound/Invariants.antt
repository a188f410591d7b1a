use Rattle.cfn_ranking.specs.Finished.{IsLeastFloor}
use Rattle.cfn_ranking.proofs.ranking.Ranking.bound.Given as goal

-- the least so far
abbrev pub invariant-loop-i : goal.invariant-loop-i
invariant-loop-i l = IsLeastFloor l.self l.i l.least

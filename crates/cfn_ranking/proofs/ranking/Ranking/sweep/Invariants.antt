use Rattle.cfn_ranking.proofs.Ends.{IsSweptTo}
use Rattle.cfn_ranking.proofs.ranking.Ranking.sweep.Given as goal

-- those so far that wait are below the threshold
abbrev pub invariant-loop-i : goal.invariant-loop-i
invariant-loop-i l = IsSweptTo l.network l.initial.self l.i l.self

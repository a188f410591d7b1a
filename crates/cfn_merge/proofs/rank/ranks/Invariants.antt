use Rattle.cfn_merge.specs.Ranking.{RankedFrom}
use Rattle.cfn_merge.proofs.rank.ranks.Given as goal

-- the nodes from this one on are ranked
abbrev pub invariant-loop-i : goal.invariant-loop-i
invariant-loop-i l = RankedFrom l.tree l.i l.ranks.items

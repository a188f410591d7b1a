use Rattle.std.proofs.Common.{◌≡◌}
use Rattle.cfn_ranking.proofs.ranking.Ranking.next.Given as goal

-- only the open list changes
abbrev pub invariant-loop : goal.invariant-loop
invariant-loop l = l.self ≡ l.initial.self

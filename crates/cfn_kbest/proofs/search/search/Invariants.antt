use Rattle.std.proofs.Common.{◌≡◌, ◌≤◌}
use Rattle.std.specs.Prelude.{IfSome}
use Rattle.cfn_dive.specs.Diving.{IsOf}
use Rattle.cfn_ranking.specs.Ranked.{IsRanked}
use Rattle.cfn_kbest.specs.Steps.{AreMarked, IsChild}
use Rattle.cfn_kbest.proofs.search.search.Given as goal

abbrev pub invariant-loop : goal.invariant-loop
invariant-loop g l =
    IsOf l.network l.parts
    × (l.best.network ≡ l.network)
    × IsRanked l.network l.ranking
    × (l.ranking.count ≡ l.initial.ranking.count)
    × (l.ranking.spent ≤ l.budget)
    × AreMarked l.network l.ranking.nodes l.marks.items
    × IfSome l.child (IsChild l.network l.parts l.ranking)

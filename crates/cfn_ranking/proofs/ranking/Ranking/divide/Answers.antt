use Rattle.std.proofs.Common.{sym, ap, subst}
use Rattle.cfn_proof.specs.Nodes.{IsLinked}
use Rattle.cfn_ranking.specs.Ranked.{Ranked, IsRanked}
use Rattle.cfn_ranking.proofs.Keeping.{keeps_divided}
use Rattle.cfn_ranking.proofs.ranking.Ranking.divide.Goals as goal

pub returns-clause-ranked : goal.returns-clause-ranked
returns-clause-ranked c =
    let r = c.args.self.now in
    let is = c.in_ok-first.ensures.ok in
    let linked = subst IsLinked (ap (λ (t : Ranked). t.nodes) is) c.law_linked.ensures in
    subst (IsRanked c.args.network.now) (sym is) (record {
      kept = keeps_divided c.args.network.now r c.args.leaf.number c.args.block c.args.decision c.args.low c.requires.ranked.kept c.requires.waits c.requires.can linked;
      threshold_is = c.requires.ranked.threshold_is;
    })

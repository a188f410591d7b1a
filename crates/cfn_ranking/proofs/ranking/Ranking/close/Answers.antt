use Rattle.std.proofs.Common.{◌+◌, sym, ap, subst, arith}
use Rattle.cfn_proof.specs.Nodes.{IsLinked}
use Rattle.cfn_ranking.specs.Ranked.{Ranked, IsRanked}
use Rattle.cfn_ranking.proofs.Keeping.{keeps_closed}
use Rattle.cfn_ranking.proofs.ranking.Ranking.close.Goals as goal

pub returns-clause-ranked : goal.returns-clause-ranked
returns-clause-ranked c =
    let r = c.args.self.now in
    let is = c.shut.ensures in
    let linked = subst IsLinked (ap (λ (t : Ranked). t.nodes) is) c.law_linked.ensures in
    subst (IsRanked c.args.network.now) (sym is) (record {
      kept = keeps_closed c.args.network.now r c.args.leaf.number c.args.block (r.spent + 1) c.requires.ranked.kept c.requires.waits.there c.requires.waits.free c.requires.may linked (omega arith) (omega arith);
      threshold_is = c.requires.ranked.threshold_is;
    })

use Rattle.std.proofs.Common.{[], ◌∷◌, ◌++◌, None, ap, ◌∙◌, subst}
use Rattle.cfn_ranking.specs.Certificates.{solutions_of}
use Rattle.cfn_proof.specs.Nodes.{IsLinked}
use Rattle.cfn_ranking.proofs.Roots.{root_is, root_ranked}
use Rattle.cfn_ranking.proofs.ranking.Ranking.make.Goals as goal

pub returns-clause-ranked : goal.returns-clause-ranked
returns-clause-ranked c =
    let linked = subst IsLinked c.in_ok-tree.ensures c.law_linked.ensures.linked in
    root_is c.args.network.now c.args.low c.args.count _ _ _ _ _ _ c.in_ok-tree.ensures (c.in_ok-push.ensures.items ∙ ap (λ l. l ++ c.args.low ∷ []) c.new-floors.ensures.items) (c.in_ok-push-2.ensures.items ∙ ap (λ l. l ++ None ∷ []) c.new-numbers.ensures.items) (ap solutions_of c.new-2.ensures.items) c.new-3.ensures.items c.ub.ensures (root_ranked c.args.network.now c.args.low c.args.count linked c.requires.some c.requires.small c.requires.floor)

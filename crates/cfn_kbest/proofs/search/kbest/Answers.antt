use Rattle.std.proofs.Common.{◌∙◌, subst}
use Rattle.cfn_kbest.specs.Searching.{IsBestOf}
use Rattle.cfn_kbest.proofs.Words.{timed_by}
use Rattle.cfn_kbest.proofs.search.kbest.Goals as goal

pub returns : goal.returns
returns g c =
    let P = c.args.network.now in
    let budget = c.args.limits.budget in
    let timed = g.H.Halt.limited c.args.halt.now in
    subst (λ n. IsBestOf P n budget timed c.ended.result) (c.search-past.ensures.count ∙ c.in_ok-ranking.ensures.count)
    (timed_by P c.search-past.new.ranking.count budget c.search-past.result timed c.ended.result c.search-past.ensures.past c.ended.ensures)

use Rattle.std.proofs.Common.{subst}
use Rattle.cfn_cli.specs.Request.Listing.{spoken_k_best}
use Rattle.cfn_ranking.specs.Certificates.{list_certificate_of}
use Rattle.cfn_ranking.specs.Trees.{open_leaves}
use Rattle.cfn_kbest.specs.Searching.{HasListCause}
use Rattle.cfn_app.proofs.Lists.{promised}
use Rattle.cfn_app.proofs.commands.listing.list_best.Goals as goal

pub returns : goal.returns
returns g c =
    let best = c.in_ok-best.best in
    let k = list_certificate_of best.certificate in
    let found = rw c.from.ensures at c.in_ok-best.ensures in
    promised c.args.network.now (spoken_k_best c.args.ask.now) best.spent k best.word c.law_limits.ensures found.list
    (subst (λ timed. HasListCause c.args.ask.now.budget timed best.spent (open_leaves k.tree) best.word) c.requires.halt found.cause)
    c.requires.some found.within c.law_spelled.ensures c.law_good_lists.ensures.others c.law_good_lists.ensures.cheapest c.law_good_lists.ensures.fewer

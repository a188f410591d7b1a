use Rattle.cfn_cli.specs.Request.Listing.{k_best_app}
use Rattle.cfn_cli.proofs.Building.{argument_first, argument_with, begun}
use Rattle.cfn_cli.proofs.commands.kbest.line.Goals as goal

pub returns : goal.returns
unfolding k_best_app
returns c =
    let start = begun _ _ c.new.ensures.app c.new.ensures.local in
    let with_file = argument_first _ _ _ _ _ c.with-line.ensures start c.file.ensures.rule c.file.ensures.local in
    let with_count = argument_with _ _ _ _ _ c.with-line-2.ensures with_file c.count.ensures.rule c.count.ensures.local in
    let with_certificate = argument_with _ _ _ _ _ c.with-line-3.ensures with_count c.certificate.ensures.rule c.certificate.ensures.local in
    let with_budget = argument_with _ _ _ _ _ c.with-line-4.ensures with_certificate c.budget.ensures.rule c.budget.ensures.local in
    let with_seconds = argument_with _ _ _ _ _ c.with-line-5.ensures with_budget c.seconds.ensures.rule c.seconds.ensures.local in
    argument_with _ _ _ _ _ c.with.ensures with_seconds c.wcnf.ensures.rule c.wcnf.ensures.local

use Rattle.cfn_cli.specs.Request.Solving.{solve_app}
use Rattle.cfn_cli.proofs.Building.{argument_first, argument_with, begun}
use Rattle.cfn_cli.proofs.commands.solve.line.Goals as goal

pub returns : goal.returns
unfolding solve_app
returns c =
    let start = begun _ _ c.new.ensures.app c.new.ensures.local in
    let with_file = argument_first _ _ _ _ _ c.with-line.ensures start c.file.ensures.rule c.file.ensures.local in
    let with_certificate = argument_with _ _ _ _ _ c.with-line-2.ensures with_file c.certificate.ensures.rule c.certificate.ensures.local in
    let with_workers = argument_with _ _ _ _ _ c.with-line-3.ensures with_certificate c.workers.ensures.rule c.workers.ensures.local in
    let with_budget = argument_with _ _ _ _ _ c.with-line-4.ensures with_workers c.budget.ensures.rule c.budget.ensures.local in
    let with_seconds = argument_with _ _ _ _ _ c.with-line-5.ensures with_budget c.seconds.ensures.rule c.seconds.ensures.local in
    let with_wcnf = argument_with _ _ _ _ _ c.with-line-6.ensures with_seconds c.wcnf.ensures.rule c.wcnf.ensures.local in
    let with_progress = argument_with _ _ _ _ _ c.with-line-7.ensures with_wcnf c.progress.ensures.rule c.progress.ensures.local in
    argument_with _ _ _ _ _ c.with.ensures with_progress c.record_option.ensures.rule c.record_option.ensures.local

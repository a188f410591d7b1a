use Rattle.cfn_cli.specs.Request.CheckingBest.{check_best_app}
use Rattle.cfn_cli.proofs.Building.{argument_first, argument_with, begun}
use Rattle.cfn_cli.proofs.commands.checkbest.line.Goals as goal

pub returns : goal.returns
unfolding check_best_app
returns c =
    let start = begun _ _ c.new.ensures.app c.new.ensures.local in
    let with_file = argument_first _ _ _ _ _ c.with-line.ensures start c.file.ensures.rule c.file.ensures.local in
    let with_certificate = argument_with _ _ _ _ _ c.with-line-2.ensures with_file c.certificate.ensures.rule c.certificate.ensures.local in
    let with_wcnf = argument_with _ _ _ _ _ c.with-line-3.ensures with_certificate c.wcnf.ensures.rule c.wcnf.ensures.local in
    argument_with _ _ _ _ _ c.with.ensures with_wcnf c.complete.ensures.rule c.complete.ensures.local

use Rattle.cfn_cli.specs.Request.Merging.{merge_app}
use Rattle.cfn_cli.proofs.Building.{argument_first, argument_with, begun}
use Rattle.cfn_cli.proofs.commands.merge.line.Goals as goal

pub returns : goal.returns
unfolding merge_app
returns c =
    let start = begun _ _ c.new.ensures.app c.new.ensures.local in
    let with_file = argument_first _ _ _ _ _ c.with-line.ensures start c.file.ensures.rule c.file.ensures.local in
    let with_out = argument_with _ _ _ _ _ c.with-line-2.ensures with_file c.out.ensures.rule c.out.ensures.local in
    let with_certificates = argument_with _ _ _ _ _ c.with-line-3.ensures with_out c.certificates.ensures.rule c.certificates.ensures.local in
    argument_with _ _ _ _ _ c.with.ensures with_certificates c.wcnf.ensures.rule c.wcnf.ensures.local

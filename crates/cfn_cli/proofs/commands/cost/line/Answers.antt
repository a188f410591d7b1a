use Rattle.cfn_cli.specs.Request.Costing.{cost_app}
use Rattle.cfn_cli.proofs.Building.{argument_first, argument_with, begun}
use Rattle.cfn_cli.proofs.commands.cost.line.Goals as goal

pub returns : goal.returns
unfolding cost_app
returns c =
    let start = begun _ _ c.new.ensures.app c.new.ensures.local in
    let with_file = argument_first _ _ _ _ _ c.with-line.ensures start c.file.ensures.rule c.file.ensures.local in
    let with_values = argument_with _ _ _ _ _ c.with-line-2.ensures with_file c.values.ensures.rule c.values.ensures.local in
    argument_with _ _ _ _ _ c.with.ensures with_values c.wcnf.ensures.rule c.wcnf.ensures.local

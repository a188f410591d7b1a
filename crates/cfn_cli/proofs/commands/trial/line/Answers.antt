use Rattle.cfn_cli.specs.Request.Trying.{trial_app}
use Rattle.cfn_cli.proofs.Building.{argument_first, argument_with, begun}
use Rattle.cfn_cli.proofs.commands.trial.line.Goals as goal

pub returns : goal.returns
unfolding trial_app
returns c =
    let start = begun _ _ c.new.ensures.app c.new.ensures.local in
    let with_seed = argument_first _ _ _ _ _ c.with-line.ensures start c.seed.ensures.rule c.seed.ensures.local in
    let with_size = argument_with _ _ _ _ _ c.with-line-2.ensures with_seed c.size.ensures.rule c.size.ensures.local in
    argument_with _ _ _ _ _ c.with.ensures with_size c.workers.ensures.rule c.workers.ensures.local

use Rattle.std.proofs.Common.{map}
use Rattle.cfn_model.specs.Text.{step_words}
use Rattle.cfn_certwrite.specs.Walk.{end_words}
use Rattle.cfn_line.proofs.CallerLemmas.{then, stop, respell}
use Rattle.cfn_certwrite.proofs.Lines.{text-push}
use Rattle.cfn_certwrite.proofs.nodes.put_node.Goals as goal

pub returns-in_err-put_steps : goal.returns-in_err-put_steps
returns-in_err-put_steps g c =
    respell _ (text-push (map step_words c.args.node.now.block) (end_words c.args.node.now.end)) (stop _ c.from_residual.ensures.0 _ c.in_err-put_steps.ensures)

pub returns : goal.returns
returns g c =
    respell _ (text-push (map step_words c.args.node.now.block) (end_words c.args.node.now.end)) (then c.in_ok-put_steps.ensures c.put_end.ensures)

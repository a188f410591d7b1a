use Rattle.cfn_line.proofs.CallerLemmas.{then, stop, respell}
use Rattle.cfn_certwrite.proofs.ListLines.{node_text}
use Rattle.cfn_certwrite.proofs.list_nodes.put_node.Goals as goal

pub returns-in_err-put_steps : goal.returns-in_err-put_steps
returns-in_err-put_steps g c =
    respell _ (node_text c.args.node.now c.args.number) (stop _ c.from_residual.ensures.0 _ c.in_err-put_steps.ensures)

pub returns : goal.returns
returns g c =
    respell _ (node_text c.args.node.now c.args.number) (then c.in_ok-put_steps.ensures c.put_last.ensures)

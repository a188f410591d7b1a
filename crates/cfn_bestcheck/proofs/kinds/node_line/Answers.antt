use Rattle.std.proofs.Common.{sym, ap, ◌∙◌}
use Rattle.std.specs.Prelude.{Some}
use Rattle.cfn_best.specs.Lines.{Says}
use Rattle.cfn_bestcheck.proofs.Items.{node_item, not_node}
use Rattle.cfn_bestcheck.proofs.kinds.node_line.Goals as goal

pub returns-then-is_node : goal.returns-then-is_node
returns-then-is_node c =
    let it = node_item c.args.item (sym c.is_node.ensures ∙ c.if-is_node.true) in
    (it.node, it.tells, ap (λ l. Some (Says l)) it.line)

pub returns-else-is_node : goal.returns-else-is_node
returns-else-is_node c = not_node c.args.item (sym c.is_node.ensures ∙ c.if-is_node.false)

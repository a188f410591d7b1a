use Rattle.std.proofs.Common.{ap}
use Rattle.cfn_best.specs.Lines.{text_of}
use Rattle.cfn_line.proofs.CallerLemmas.{begin, go_on, halt}
use Rattle.cfn_certwrite.proofs.CallerLemmas.{own_first}
use Rattle.cfn_certwrite.proofs.ListLines.{text_left, tree_in_order}
use Rattle.cfn_certwrite.proofs.list_nodes.put_tree.Goals as goal

pub loop-next-init : goal.loop-next-init
loop-next-init g c = record {
  there = c.law_linked.ensures.linked.some;
  left = rw (ap text_of (tree_in_order c.args.tree.now c.args.numbers.now c.law_linked.ensures.linked)) (begin _ _ _ c.requires);
}

pub returns-in_err-put_node : goal.returns-in_err-put_node
returns-in_err-put_node g c =
    let own = own_first c.args.tree.now c.in-Some.id.number c.law_linked.ensures.linked (rw c.in-Some.is at c.loop-next.invariant.there) in
    halt _ c.from_residual.ensures.0 _ (text_left c.args.tree.now c.args.numbers.now _ c.in-Some.id own.0 c.in-Some.is own.1) c.loop-next.invariant.left (rw (c.node.ensures, c.number_of.ensures) at c.in_err-put_node.ensures)

pub loop-next-preserved : goal.loop-next-preserved
loop-next-preserved g c = record {
  there = c.next_node-next.ensures.there;
  left = go_on _ (text_left c.args.tree.now c.args.numbers.now _ c.in-Some.id _ c.in-Some.is c.next_node-next.ensures.order) c.loop-next.invariant.left (rw (c.node.ensures, c.number_of.ensures) at c.in_ok-put_node.ensures);
}

use Rattle.std.proofs.Common.{◌++◌, ap}
use Rattle.cfn_model.specs.Text.{text}
use Rattle.cfn_line.proofs.CallerLemmas.{finish, halt}
use Rattle.cfn_proof.specs.Nodes.{node_at}
use Rattle.cfn_certwrite.specs.Walk.{node_lines}
use Rattle.cfn_certwrite.proofs.CallerLemmas.{own_first, tree_in_order}
use Rattle.cfn_certwrite.proofs.Gathering.{start, go_on, at_end}
use Rattle.cfn_certwrite.proofs.Trees.{waiting_left}
use Rattle.cfn_certwrite.proofs.record_nodes.put_tree.Goals as goal

pub loop-next-init : goal.loop-next-init
loop-next-init g c = record {
  there = c.law_linked.ensures.linked.some;
  left = start _ _ _ _ c.requires (ap text (tree_in_order c.args.tree.now c.law_linked.ensures.linked)) c.new-batch.ensures;
}

pub returns-in_err-gather_node : goal.returns-in_err-gather_node
returns-in_err-gather_node g c =
    let own = own_first c.args.tree.now c.in-Some.id.number c.law_linked.ensures.linked (rw c.in-Some.is at c.loop-next.invariant.there) in
    let first = c.loop-next.batch ++ text (node_lines (node_at c.args.tree.now c.in-Some.id.number)) in
    halt {first = first} _ c.from_residual.ensures.0 _ (waiting_left c.loop-next.batch c.args.tree.now _ c.in-Some.id own.0 c.in-Some.is own.1) c.loop-next.invariant.left (rw c.node.ensures at c.in_err-gather_node.ensures).err

pub loop-next-preserved : goal.loop-next-preserved
loop-next-preserved g c = record {
  there = c.next_node-next.ensures.there;
  left = go_on _ (waiting_left c.loop-next.batch c.args.tree.now _ c.in-Some.id _ c.in-Some.is c.next_node-next.ensures.order) c.loop-next.invariant.left (rw c.node.ensures at c.in_ok-gather_node.ensures);
}

pub returns : goal.returns
returns g c = finish (at_end (rw c.in_default.is at c.loop-next.invariant.left)) c.flush.ensures.put

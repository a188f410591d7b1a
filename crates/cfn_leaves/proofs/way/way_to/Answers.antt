use Rattle.std.proofs.Common.{◌≡◌, ap, sym, ◌∙◌, Some}
use Rattle.cfn_proof.specs.Nodes.{node_at}
use Rattle.cfn_proof.specs.declared.tree.Node.{Node}
use Rattle.cfn_leaves.proofs.Ways.{goes_up, parent_there}
use Rattle.cfn_leaves.proofs.way.way_to.Goals as goal

pub loop-parent-smaller : goal.loop-parent-smaller
loop-parent-smaller c =
    let parent : (node_at c.args.tree.now c.loop-parent.at.number).parent ≡ Some c.in-Some.parent = ap (λ (n : Node). n.parent) (sym c.node.ensures) ∙ c.in-Some.is in
    (c.law_linked.ensures.linked.parents c.loop-parent.at.number c.in-Some.parent c.loop-parent.invariant.0 parent).0

pub loop-parent-preserved : goal.loop-parent-preserved
loop-parent-preserved c =
    let parent : (node_at c.args.tree.now c.loop-parent.at.number).parent ≡ Some c.in-Some.parent = ap (λ (n : Node). n.parent) (sym c.node.ensures) ∙ c.in-Some.is in (
      parent_there c.args.tree.now c.loop-parent.at.number c.in-Some.parent c.law_linked.ensures.linked c.loop-parent.invariant.0 parent,
      goes_up c.args.tree.now c.args.node.number c.loop-parent.at.number c.in-Some.parent c.loop-parent.way.items c.push-in-Some.new.self.items c.law_linked.ensures.linked c.loop-parent.invariant.0 parent c.in_ok-push-2.ensures.items c.loop-parent.invariant.1,
    )

use Rattle.std.proofs.Common.{◌≡◌, ◌∙◌, [], ap, sym, Some, None}
use Rattle.cfn_model.specs.Steps.{after}
use Rattle.cfn_proof.specs.declared.tree.Node.{Node}
use Rattle.cfn_proof.specs.Nodes.{node_at}
use Rattle.cfn_leaves.proofs.Ways.{parent_there}
use Rattle.cfn_leaves.proofs.Climbs.{at_top}
use Rattle.cfn_leaves.proofs.climb.is_at.Goals as goal

pub loop-parent-smaller : goal.loop-parent-smaller
loop-parent-smaller c =
    let parent : (node_at c.args.tree.now c.loop-parent.at.number).parent ≡ Some c.in-Some.parent = ap (λ (n : Node). n.parent) (sym c.node.ensures) ∙ c.in-Some.is in
    (c.law_linked.ensures.linked.parents c.loop-parent.at.number c.in-Some.parent c.loop-parent.invariant.there parent).0

pub loop-parent-preserved : goal.loop-parent-preserved
loop-parent-preserved c =
    let parent : (node_at c.args.tree.now c.loop-parent.at.number).parent ≡ Some c.in-Some.parent = ap (λ (n : Node). n.parent) (sym c.node.ensures) ∙ c.in-Some.is in
    let up = c.in-Some-above.ensures c.in-Some.parent parent in
    record {
      there = parent_there c.args.tree.now c.loop-parent.at.number c.in-Some.parent c.law_linked.ensures.linked c.loop-parent.invariant.there parent;
      same = (λ of. up.0 (c.loop-parent.invariant.same.0 of), λ of. c.loop-parent.invariant.same.1 (up.1 of));
    }

pub returns : goal.returns
returns c =
    let nodes = c.args.tree.now in
    let i = c.loop-parent.at.number in
    let left = c.loop-parent.left in
    let parent : (node_at nodes i).parent ≡ None = ap (λ (n : Node). n.parent) (sym c.node.ensures) ∙ c.in_default.is in
    let top = at_top nodes c.law_same_before.ensures.once c.law_linked.ensures.linked i left c.loop-parent.invariant.there parent in
    let block = ap (λ (n : Node). after n.block []) c.node-2.ensures in
    let same = c.loop-parent.invariant.same in
    (λ yes. same.1 (top.0 (c.is_block.ensures.0 yes ∙ block)), λ of. c.is_block.ensures.1 (top.1 (same.0 of) ∙ sym block))

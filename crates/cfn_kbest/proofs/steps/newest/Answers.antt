use Rattle.std.proofs.Common.{◌≡◌, ◌<◌, List, Some, length, sym, ap, ◌∙◌, subst, arith}
use Rattle.cfn_proof.specs.declared.tree.Node.{Node}
use Rattle.cfn_proof.specs.Nodes.{node_at}
use Rattle.cfn_kbest.proofs.steps.newest.Goals as goal

pub node-requires : goal.node-requires
node-requires c =
    let nodes = c.tree-tree.result.now in
    let i = c.args.leaf.number in
    let there : i < length nodes = subst (λ (n : List Node). i < length n) (sym c.tree-tree.ensures) c.requires.there in
    let parent : (node_at nodes i).parent ≡ Some c.in_ok-parent.parent = ap (λ (n : Node). n.parent) (sym c.node-node.ensures) ∙ c.in_ok-parent.was in
    let below = (c.law_linked.ensures.linked.parents i c.in_ok-parent.parent there parent).0 in
    omega (arith, below, there)

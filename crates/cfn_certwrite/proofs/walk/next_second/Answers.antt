use Rattle.std.proofs.Common.{◌≡◌, ◌<◌, Some, length, sym, ap, ◌∙◌, arith}
use Rattle.cfn_proof.specs.Nodes.{node_at}
use Rattle.cfn_certwrite.proofs.Order.{behind_root, behind_sibling, behind_parent}
use Rattle.cfn_certwrite.proofs.walk.next_second.Goals as goal

pub node-requires-in-Some : goal.node-requires-in-Some
node-requires-in-Some c =
    let parent : (node_at c.args.tree.now c.loop-parent.done.number).parent ≡ Some c.in-Some.parent = ap (λ n. n.parent) (sym c.node.ensures) ∙ c.in-Some.is in
    let before : c.in-Some.parent.number < c.loop-parent.done.number = (c.law_linked.ensures.linked.parents _ _ c.loop-parent.invariant.there parent).0 in
    let there : c.loop-parent.done.number < length c.args.tree.now = c.loop-parent.invariant.there in
    omega arith

pub returns-then-is_some : goal.returns-then-is_some
returns-then-is_some c =
    let parent : (node_at c.args.tree.now c.loop-parent.done.number).parent ≡ Some c.in-Some.parent = ap (λ n. n.parent) (sym c.node.ensures) ∙ c.in-Some.is in
    let next = behind_sibling c.args.tree.now c.loop-parent.done.number c.in-Some.parent _ c.second_behind-sibling.result c.law_linked.ensures.linked c.loop-parent.invariant.there parent c.node-in-Some.ensures c.second_behind-sibling.ensures (sym c.is_some.ensures ∙ c.if-is_some.true) in
    record { there = next.0; order = c.loop-parent.invariant.same ∙ next.1 }

pub loop-parent-smaller : goal.loop-parent-smaller
loop-parent-smaller c =
    let parent : (node_at c.args.tree.now c.loop-parent.done.number).parent ≡ Some c.in-Some.parent = ap (λ n. n.parent) (sym c.node.ensures) ∙ c.in-Some.is in
    (c.law_linked.ensures.linked.parents _ _ c.loop-parent.invariant.there parent).0

pub loop-parent-preserved : goal.loop-parent-preserved
loop-parent-preserved c =
    let parent : (node_at c.args.tree.now c.loop-parent.done.number).parent ≡ Some c.in-Some.parent = ap (λ n. n.parent) (sym c.node.ensures) ∙ c.in-Some.is in
    let above = behind_parent c.args.tree.now c.loop-parent.done.number c.in-Some.parent _ c.second_behind-sibling.result c.law_linked.ensures.linked c.loop-parent.invariant.there parent c.node-in-Some.ensures c.second_behind-sibling.ensures (sym c.is_some.ensures ∙ c.if-is_some.false) in
    let before : c.in-Some.parent.number < c.loop-parent.done.number = above.0 in
    let there : c.loop-parent.done.number < length c.args.tree.now = c.loop-parent.invariant.there in
    record { there = omega arith; same = c.loop-parent.invariant.same ∙ above.1 }

pub returns-clause-order : goal.returns-clause-order
returns-clause-order c = c.loop-parent.invariant.same ∙ behind_root c.args.tree.now c.loop-parent.done.number c.law_linked.ensures.linked c.loop-parent.invariant.there (ap (λ n. n.parent) (sym c.node.ensures) ∙ c.in_default.is)

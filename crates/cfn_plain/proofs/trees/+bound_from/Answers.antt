use Rattle.std.proofs.Common.{ap, ◌∙◌, arith}
use Rattle.cfn_model.specs.Sums.{floor}
use Rattle.cfn_model.specs.Tree.{bound}
use Rattle.cfn_proof.specs.declared.tree.End.TheVariants.{Free, Shut, Split}
use Rattle.cfn_model.specs.declared.step.Event.TheVariants.{Took, Refused}
use Rattle.cfn_proof.specs.Nodes.{tree_at}
use Rattle.cfn_plain.proofs.TreeSteps.{tree_is, family, side_is}
use Rattle.cfn_plain.proofs.trees.+bound_from.Goals as goal

pub returns-in-Free : goal.returns-in-Free
returns-in-Free t c =
    let P = c.args.network.now in
    let nodes = c.args.tree.now in
    let node = c.node-node.result.now in
    let is = ap (λ t. bound P c.args.history.now t c.args.k) (tree_is nodes c.args.id.number node Free c.law_linked.ensures.linked c.requires c.node-node.ensures c.in-Free.is) in
    let behind = c.as_slice.ensures.value ∙ c.in_ok-behind.ensures in
    let low = c.floor.ensures ∙ ap (floor P) behind in
    omega (arith, is, low, c.min.ensures)

pub returns-in-Shut : goal.returns-in-Shut
returns-in-Shut t c =
    let is = ap (λ t. bound c.args.network.now c.args.history.now t c.args.k) (tree_is c.args.tree.now c.args.id.number c.node-node.result.now Shut c.law_linked.ensures.linked c.requires c.node-node.ensures c.in-Shut.is) in
    omega (arith, is)

pub bound_from-requires : goal.bound_from-requires
bound_from-requires t c =
    let kids = family c.args.tree.now c.args.id.number c.node-node.result.now c.in-Split.decision c.in-Split.first c.in-Split.second c.law_linked.ensures.linked c.requires c.node-node.ensures c.in-Split.is in
    (omega (arith, kids.first_behind, kids.first_there), kids.first_there)

pub bound_from-requires-in-Split : goal.bound_from-requires-in-Split
bound_from-requires-in-Split t c =
    let kids = family c.args.tree.now c.args.id.number c.node-node.result.now c.in-Split.decision c.in-Split.first c.in-Split.second c.law_linked.ensures.linked c.requires c.node-node.ensures c.in-Split.is in
    (omega (arith, kids.second_behind, kids.second_there), kids.second_there)

pub returns : goal.returns
returns t c =
    let P = c.args.network.now in
    let h = c.args.history.now in
    let nodes = c.args.tree.now in
    let node = c.node-node.result.now in
    let first = c.in-Split.first in
    let second = c.in-Split.second in
    let d = c.in-Split.decision in
    let is = ap (λ t. bound P h t c.args.k) (tree_is nodes c.args.id.number node (Split d first second) c.law_linked.ensures.linked c.requires c.node-node.ensures c.in-Split.is) in
    let yes = side_is (Took d) node.block h _ _ _ _ c.as_slice-in-Split-2.ensures.value c.in_ok-took-in-Split.ensures.0 c.as_slice-in-Split.ensures.value c.in_ok-behind.ensures in
    let no = side_is (Refused d) node.block h _ _ _ _ c.as_slice-in-Split-3.ensures.value c.in_ok-took-in-Split.ensures.1 c.as_slice-in-Split.ensures.value c.in_ok-behind.ensures in
    let one = c.in_ok-least-in-Split.ensures ∙ ap (λ h. bound P h (tree_at nodes first.number) c.args.k) yes in
    let other = c.in_ok-bound_from-in-Split.ensures ∙ ap (λ h. bound P h (tree_at nodes second.number) c.args.k) no in
    omega (arith, is, one, other, c.min-in-Split.ensures)

use Rattle.std.proofs.Common.{◌∷◌, refl, sym, subst, ◌∙◌, arith}
use Rattle.std.specs.Prelude.{IsTrue, ◌↔◌}
use Rattle.std.proofs.lemmas.Bool.{false≢true}
use Rattle.cfn_model.specs.declared.step.Event.TheVariants.{Took, Refused}
use Rattle.cfn_model.specs.Steps.{after}
use Rattle.cfn_model.specs.Tree.{Valid, CanClose}
use Rattle.cfn_proof.specs.declared.tree.End.TheVariants.{Free, Shut, Split}
use Rattle.cfn_proof.specs.Nodes.{tree_at}
use Rattle.cfn_plain.proofs.TreeSteps.{valid_at, valid_runs, family, side_is, both_yes, both_no}
use Rattle.cfn_plain.proofs.trees.+valid_from.Goals as goal
use Rattle.cfn_plain.proofs.trees.+valid_from.Goals.{then-branch+in_ok-valid_from-in-Split-2, else-branch}

pub returns-then-not-branch : goal.returns-then-not-branch
returns-then-not-branch t c =
    let P = c.args.network.now in
    let h = c.args.history.now in (
      λ no. absurd (false≢true no),
      λ valid. sym c.if-not-branch.true ∙ c.in_ok-block_runs.ensures.1 (valid_runs P h c.args.k c.args.tree.now c.args.id.number c.node-node.result.now c.law_linked.ensures.linked c.requires c.node-node.ensures valid),
    )

pub returns-in-Free : goal.returns-in-Free
returns-in-Free t c =
    let P = c.args.network.now in
    let h = c.args.history.now in
    let at = valid_at P h c.args.k c.args.tree.now c.args.id.number c.node-node.result.now Free c.law_linked.ensures.linked c.requires c.node-node.ensures c.in-Free.is in
    let run = c.in_ok-block_runs.ensures.0 c.if-not-branch.false in
    (λ yes. at.0 run, λ valid. refl)

pub returns-in-Shut : goal.returns-in-Shut
returns-in-Shut t c =
    let P = c.args.network.now in
    let h = c.args.history.now in
    let k = c.args.k in
    let at = valid_at P h k c.args.tree.now c.args.id.number c.node-node.result.now Shut c.law_linked.ensures.linked c.requires c.node-node.ensures c.in-Shut.is in
    let run = c.in_ok-block_runs.ensures.0 c.if-not-branch.false in
    let behind = c.as_slice.ensures.value ∙ c.in_ok-behind.ensures in (
      λ yes. at.0 (run, subst (λ h. CanClose P h k) behind (c.can_close.ensures.0 yes)),
      λ valid. c.can_close.ensures.1 (subst (λ h. CanClose P h k) (sym behind) (at.1 valid).1),
    )

pub returns-then-not-is_decision : goal.returns-then-not-is_decision
returns-then-not-is_decision t c =
    let at = valid_at c.args.network.now c.args.history.now c.args.k c.args.tree.now c.args.id.number c.node-node.result.now (Split c.in-Split.decision c.in-Split.first c.in-Split.second) c.law_linked.ensures.linked c.requires c.node-node.ensures c.in-Split.is in (
      λ no. absurd (false≢true no),
      λ valid. sym c.if-not-is_decision.true ∙ c.is_decision.ensures.1 (at.1 valid).1,
    )

pub valid_from-requires : goal.valid_from-requires
valid_from-requires t c =
    let kids = family c.args.tree.now c.args.id.number c.node-node.result.now c.in-Split.decision c.in-Split.first c.in-Split.second c.law_linked.ensures.linked c.requires c.node-node.ensures c.in-Split.is in
    (omega (arith, kids.first_behind, kids.first_there), kids.first_there)

pub valid_from-requires-then-branch : goal.valid_from-requires-then-branch
valid_from-requires-then-branch t c =
    let kids = family c.args.tree.now c.args.id.number c.node-node.result.now c.in-Split.decision c.in-Split.first c.in-Split.second c.law_linked.ensures.linked c.requires c.node-node.ensures c.in-Split.is in
    (omega (arith, kids.second_behind, kids.second_there), kids.second_there)

pub returns : goal.returns
returns t c =
    let P = c.args.network.now in
    let h = c.args.history.now in
    let k = c.args.k in
    let nodes = c.args.tree.now in
    let node = c.node-node.result.now in
    let first = c.in-Split.first in
    let second = c.in-Split.second in
    let d = c.in-Split.decision in
    let at = valid_at P h k nodes c.args.id.number node (Split d first second) c.law_linked.ensures.linked c.requires c.node-node.ensures c.in-Split.is in
    let run = c.in_ok-block_runs.ensures.0 c.if-not-branch.false in
    let value = c.is_decision.ensures.0 c.if-not-is_decision.false in
    let yes = side_is (Took d) node.block h _ _ _ _ c.as_slice-in-Split-2.ensures.value c.in_ok-took-in-Split.ensures.0 c.as_slice-in-Split.ensures.value c.in_ok-behind.ensures in
    let no = side_is (Refused d) node.block h _ _ c.in_ok-took-in-Split.refused.items _ refl c.in_ok-took-in-Split.ensures.1 c.as_slice-in-Split.ensures.value c.in_ok-behind.ensures in
    let First = Valid P (Took d ∷ after node.block h) (tree_at nodes first.number) k in
    let Second = Valid P (Refused d ∷ after node.block h) (tree_at nodes second.number) k in
    let one : IsTrue c.in_ok-valid_from-in-Split.field-0 ↔ First = subst (λ h. IsTrue c.in_ok-valid_from-in-Split.field-0 ↔ Valid P h (tree_at nodes first.number) k) yes c.in_ok-valid_from-in-Split.ensures in
    let both : IsTrue c.if-branch.result ↔ (First × Second) =
    elim c.if-branch.branch [
      | then-branch+in_ok-valid_from-in-Split-2 w ↦
          both_yes c.if-branch.result c.in_ok-valid_from-in-Split.field-0 w.in_ok-valid_from-in-Split-2.field-0 w.if-branch.true w.result-is one
          (subst (λ h. IsTrue w.in_ok-valid_from-in-Split-2.field-0 ↔ Valid P h (tree_at nodes second.number) k) (w.as_slice-then-branch.ensures.value ∙ no) w.in_ok-valid_from-in-Split-2.ensures)
      | else-branch w ↦ both_no c.if-branch.result c.in_ok-valid_from-in-Split.field-0 w.if-branch.false w.result-is one
    ] in (
      λ answer. let sides = both.0 answer in at.0 (run, value, sides.0, sides.1),
      λ valid. let parts = at.1 valid in both.1 (parts.2, parts.3),
    )

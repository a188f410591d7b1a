use Rattle.std.proofs.Common.{◌∷◌, refl, sym, subst, ◌∙◌, arith}
use Rattle.std.specs.Prelude.{IsTrue, ◌↔◌}
use Rattle.std.proofs.lemmas.Bool.{false≢true}
use Rattle.cfn_model.specs.declared.step.Event.TheVariants.{Took, Refused}
use Rattle.cfn_model.specs.Steps.{after}
use Rattle.cfn_model.specs.Tree.{Strict, IsStrictSplit}
use Rattle.cfn_proof.specs.declared.tree.End.TheVariants.{Split}
use Rattle.cfn_proof.specs.Nodes.{tree_at}
use Rattle.cfn_plain.proofs.TreeSteps.{strict_at, strict_at_leaf, family, side_is, both_yes, both_no}
use Rattle.cfn_plain.proofs.trees.+strict_from.Goals as goal
use Rattle.cfn_plain.proofs.trees.+strict_from.Goals.{then-branch+in_ok-strict_from-2, else-branch}

pub returns-in_default : goal.returns-in_default
returns-in_default t c =
    (λ yes. strict_at_leaf c.args.network.now c.args.history.now c.args.tree.now c.args.id.number c.node-node.result.now c.law_linked.ensures.linked c.requires c.node-node.ensures c.in_default.not-Split, λ v. refl)

pub returns-then-not-is_strict_split : goal.returns-then-not-is_strict_split
returns-then-not-is_strict_split t c =
    let P = c.args.network.now in
    let h = c.args.history.now in
    let node = c.node-node.result.now in
    let d = c.in-Split.decision in
    let at = strict_at P h c.args.tree.now c.args.id.number node (Split d c.in-Split.first c.in-Split.second) c.law_linked.ensures.linked c.requires c.node-node.ensures c.in-Split.is in
    let behind = c.as_slice.ensures.value ∙ c.in_ok-behind.ensures in (
      λ no. absurd (false≢true no),
      λ strict. sym c.if-not-is_strict_split.true ∙ c.is_strict_split.ensures.1 (subst (λ h. IsStrictSplit P h d) (sym behind) (at.1 strict).0),
    )

pub strict_from-requires : goal.strict_from-requires
strict_from-requires t c =
    let kids = family c.args.tree.now c.args.id.number c.node-node.result.now c.in-Split.decision c.in-Split.first c.in-Split.second c.law_linked.ensures.linked c.requires c.node-node.ensures c.in-Split.is in
    (omega (arith, kids.first_behind, kids.first_there), kids.first_there)

pub strict_from-requires-then-branch : goal.strict_from-requires-then-branch
strict_from-requires-then-branch t c =
    let kids = family c.args.tree.now c.args.id.number c.node-node.result.now c.in-Split.decision c.in-Split.first c.in-Split.second c.law_linked.ensures.linked c.requires c.node-node.ensures c.in-Split.is in
    (omega (arith, kids.second_behind, kids.second_there), kids.second_there)

pub returns : goal.returns
returns t c =
    let P = c.args.network.now in
    let h = c.args.history.now in
    let nodes = c.args.tree.now in
    let node = c.node-node.result.now in
    let first = c.in-Split.first in
    let second = c.in-Split.second in
    let d = c.in-Split.decision in
    let at = strict_at P h nodes c.args.id.number node (Split d first second) c.law_linked.ensures.linked c.requires c.node-node.ensures c.in-Split.is in
    let behind = c.as_slice.ensures.value ∙ c.in_ok-behind.ensures in
    let here = subst (λ h. IsStrictSplit P h d) behind (c.is_strict_split.ensures.0 c.if-not-is_strict_split.false) in
    let yes = side_is (Took d) node.block h _ _ _ _ c.as_slice-3.ensures.value c.in_ok-took.ensures.0 c.as_slice-2.ensures.value c.in_ok-behind.ensures in
    let no = side_is (Refused d) node.block h _ _ c.in_ok-took.refused.items _ refl c.in_ok-took.ensures.1 c.as_slice-2.ensures.value c.in_ok-behind.ensures in
    let First = Strict P (Took d ∷ after node.block h) (tree_at nodes first.number) in
    let Second = Strict P (Refused d ∷ after node.block h) (tree_at nodes second.number) in
    let one : IsTrue c.in_ok-strict_from.field-0 ↔ First = subst (λ h. IsTrue c.in_ok-strict_from.field-0 ↔ Strict P h (tree_at nodes first.number)) yes c.in_ok-strict_from.ensures in
    let both : IsTrue c.if-branch.result ↔ (First × Second) =
    elim c.if-branch.branch [
      | then-branch+in_ok-strict_from-2 w ↦
          both_yes c.if-branch.result c.in_ok-strict_from.field-0 w.in_ok-strict_from-2.field-0 w.if-branch.true w.result-is one
          (subst (λ h. IsTrue w.in_ok-strict_from-2.field-0 ↔ Strict P h (tree_at nodes second.number)) (w.as_slice-then-branch.ensures.value ∙ no) w.in_ok-strict_from-2.ensures)
      | else-branch w ↦ both_no c.if-branch.result c.in_ok-strict_from.field-0 w.if-branch.false w.result-is one
    ] in (
      λ answer. let sides = both.0 answer in at.0 (here, sides.0, sides.1),
      λ strict. let parts = at.1 strict in both.1 (parts.1, parts.2),
    )

use Rattle.std.proofs.Common.{inl, inr, sym, ap, ◌∙◌, subst, eqb-true, eq-eqb, true≢false, Some}
use Rattle.cfn_proof.specs.declared.tree.Node.{Node}
use Rattle.cfn_leaves.specs.Ways.{IsSide}
use Rattle.cfn_leaves.proofs.Ways.{root_side, split_side, no_leaf, parent_there}
use Rattle.cfn_leaves.proofs.way.side.Goals as goal

pub returns-in_err-parent : goal.returns-in_err-parent
returns-in_err-parent c =
    let none = ap (λ (n : Node). n.parent) (sym c.node.ensures) ∙ c.in_err-parent.was in
    subst (IsSide c.args.tree.now c.args.id.number) (sym c.from_residual.ensures) (root_side c.args.tree.now c.args.id.number c.law_linked.ensures.linked c.requires none)

pub node-requires-2 : goal.node-requires-2
node-requires-2 c = parent_there c.args.tree.now c.args.id.number c.in_ok-parent.parent c.law_linked.ensures.linked c.requires (ap (λ (n : Node). n.parent) (sym c.node.ensures) ∙ c.in_ok-parent.was)

pub returns-in-Split : goal.returns-in-Split
returns-in-Split c =
    let parent = ap (λ (n : Node). n.parent) (sym c.node.ensures) ∙ c.in_ok-parent.was in
    let is = ap (λ (n : Node). n.end) (sym c.node-2.ensures) ∙ c.in-Split.is in
    subst (λ e. IsSide c.args.tree.now c.args.id.number (Some e)) (sym c.side_of.ensures)
    (split_side c.args.tree.now c.args.id.number c.in_ok-parent.parent c.in-Split.decision c.in-Split.first c.in-Split.second c.eq.result c.law_linked.ensures.linked c.requires parent is
    (λ h. eqb-true _ _ (sym c.eq.ensures ∙ h)) (λ h same. true≢false (sym (c.eq.ensures ∙ eq-eqb _ _ same) ∙ h)))

pub returns-in-Free : goal.returns-in-Free
returns-in-Free c =
    let parent = ap (λ (n : Node). n.parent) (sym c.node.ensures) ∙ c.in_ok-parent.was in
    let read = ap (λ (n : Node). n.end) (sym c.node-2.ensures) in
    absurd (no_leaf c.args.tree.now c.args.id.number c.in_ok-parent.parent c.law_linked.ensures.linked c.requires parent (elim c.in-Free.is [ inl h ↦ inl (read ∙ h) | inr h ↦ inr (read ∙ h) ]))

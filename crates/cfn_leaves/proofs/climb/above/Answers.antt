use Rattle.std.proofs.Common.{◌≡◌, ◌↔◌, ◌∷◌, List, sym, subst, MatchOption}
use Rattle.cfn_model.specs.declared.step.Event.{Event}
use Rattle.cfn_model.specs.Steps.{after}
use Rattle.cfn_proof.specs.declared.tree.Node.{Node}
use Rattle.cfn_proof.specs.Legs.{event_of}
use Rattle.cfn_leaves.specs.Ways.{IsPathOf}
use Rattle.cfn_leaves.proofs.Climbs.{no_side, by_side}
use Rattle.cfn_leaves.proofs.climb.above.Goals as goal

pub returns-in_err-side : goal.returns-in_err-side
returns-in_err-side c = λ up parent.
    let nodes = c.args.tree.now in
    let i = c.args.child.number in
    subst (λ o. MatchOption o (IsPathOf nodes i c.args.left → ⊥) (λ rest. IsPathOf nodes i c.args.left ↔ IsPathOf nodes up.number rest)) (sym c.from_residual.ensures)
    (no_side nodes c.law_same_before.ensures.once c.law_linked.ensures.linked i c.args.left up parent c.in_err-side.ensures)

pub returns : goal.returns
returns c = λ up parent.
    let nodes = c.args.tree.now in
    let i = c.args.child.number in
    let side = c.in_ok-side.side in
    by_side nodes c.law_same_before.ensures.once c.law_linked.ensures.linked i c.args.left side up c.above.result parent c.in_ok-side.ensures
    (subst (λ (n : Node). MatchOption c.above.result ((above : List Event) → c.args.left ≡ after n.block (event_of side ∷ above) → ⊥) (λ above. c.args.left ≡ after n.block (event_of side ∷ above))) c.node.ensures c.above.ensures)

use Rattle.std.proofs.Common.{ℕ, List, length, subst, ◌∙◌}
use Rattle.std.specs.Prelude.{◌==◌}
use Rattle.cfn_model.specs.declared.step.Event.{Event}
use Rattle.cfn_fault.specs.declared.kind.FaultKind.TheVariants as kinds
use Rattle.cfn_best.specs.declared.kind.ListFault.TheVariants.{Certificate}
use Rattle.cfn_best.specs.Lines.{AtNodes}
use Rattle.cfn_best.specs.Fault.{Fault}
use Rattle.cfn_bestcheck.specs.Position.{At}
use Rattle.cfn_bestcheck.specs.Checking.{IsVerified, claim_of}
use Rattle.cfn_bestcheck.proofs.Verifying.{all_verified, lower_above}
use Rattle.cfn_bestcheck.proofs.judging.tree.Goals as goal

pub returns-then-least-opening-clause-stop : goal.returns-then-least-opening-clause-stop
returns-then-least-opening-clause-stop c =
    let P = c.args.network.now in
    let tree = c.in_ok-nodes.ensures.tree in
    let claim = claim_of c.args.opening c.args.list.now in
    let at = subst (λ (ps : List (List Event)). At P c.nodes.new.lines (AtNodes claim c.nodes.new.walk.least ps)) c.in_ok-nodes.ensures.over tree.at in
    let over = c.in_ok-end.ensures.right claim c.nodes.new.walk.least at in
    subst (λ (x : List ℕ). Fault P x 4 (Certificate kinds.Lower)) (c.in_ok-end.ensures.text ∙ c.in_ok-nodes.ensures.text)
    (lower_above P c.end.new.lines c.args.opening c.args.list.now c.nodes.new.walk.least over c.in_ok-end.ensures.over (rw c.least.ensures at c.if-least-opening.true))

pub returns-clause-ok : goal.returns-clause-ok
returns-clause-ok c =
    let P = c.args.network.now in
    let tree = c.in_ok-nodes.ensures.tree in
    let claim = claim_of c.args.opening c.args.list.now in
    let at = subst (λ (ps : List (List Event)). At P c.nodes.new.lines (AtNodes claim c.nodes.new.walk.least ps)) c.in_ok-nodes.ensures.over tree.at in
    let over = c.in_ok-end.ensures.right claim c.nodes.new.walk.least at in
    subst (λ (x : List ℕ). IsVerified P x c.args.opening.lower (length c.args.list.now) (c.args.opening.lower == c.threshold-threshold.result)) (c.in_ok-end.ensures.text ∙ c.in_ok-nodes.ensures.text)
    (all_verified P c.end.new.lines c.args.opening c.args.list.now c.nodes.new.walk.least over c.in_ok-end.ensures.over c.law_limits.ensures (rw c.least.ensures at c.if-least-opening.false) c.threshold-threshold.result c.threshold-threshold.ensures)

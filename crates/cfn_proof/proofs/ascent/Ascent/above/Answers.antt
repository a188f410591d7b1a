use Rattle.std.proofs.Common.{◌≡◌, ◌∙◌, ◌∷◌, List, ap, sym, subst, true≢false, MatchOption}
use Rattle.std.proofs.lemmas.List.{nil_from_length}
use Rattle.cfn_model.specs.declared.step.Event.{Event}
use Rattle.cfn_model.specs.Steps.{after}
use Rattle.cfn_proof.specs.declared.path.Side.{Side}
use Rattle.cfn_proof.specs.Legs.{event_of, path_of}
use Rattle.cfn_proof.proofs.Parting.{at_block, no_root, parts, with_leg}
use Rattle.cfn_proof.proofs.ascent.Ascent.above.Goals as goal

pub returns-in_err-leg : goal.returns-in_err-leg
returns-in_err-leg c =
    let root = c.self.inside.root.now in
    let legs = c.self.inside.legs.now in
    let block = c.args.block.now in
    let side = c.args.side in
    subst (λ o. MatchOption o ((above : List Event) → c.args.self ≡ after block (event_of side ∷ above) → ⊥) (λ above. c.args.self ≡ after block (event_of side ∷ above))) (sym c.from_residual.ensures)
    (λ above is. no_root block root side above (sym is ∙ sym c.self.view_is ∙ ap (path_of root) (nil_from_length legs c.in_err-leg.ensures.cases) ∙ at_block root))

pub returns-then-is_of : goal.returns-then-is_of
returns-then-is_of c =
    let root = c.self.inside.root.now in
    let legs = c.in_ok-leg.legs.now in
    let leg = c.in_ok-leg.leg.now in
    let same = c.is_of.ensures.0 c.if-is_of.true in
    sym c.self.view_is
    ∙ ap (path_of root) c.in_ok-leg.ensures.cases.0
    ∙ with_leg root legs leg
    ∙ ap (λ (side : Side). after leg.block (event_of side ∷ path_of root legs)) same.0
    ∙ ap (λ block. after block (event_of c.args.side ∷ path_of root legs)) same.1

pub returns-else-is_of : goal.returns-else-is_of
returns-else-is_of c = λ above is.
    let root = c.self.inside.root.now in
    let legs = c.in_ok-leg.legs.now in
    let leg = c.in_ok-leg.leg.now in
    let whole = sym c.self.view_is ∙ ap (path_of root) c.in_ok-leg.ensures.cases.0 ∙ with_leg root legs leg in
    let same = parts leg.block c.args.block.now leg.side c.args.side (path_of root legs) above (sym whole ∙ is) in
    true≢false (sym (c.is_of.ensures.1 (same.sides_are, same.blocks_are)) ∙ c.if-is_of.false)

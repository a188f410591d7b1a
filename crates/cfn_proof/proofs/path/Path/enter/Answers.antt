use Rattle.std.proofs.Common.{◌∙◌, ◌∷◌, ap}
use Rattle.cfn_model.specs.Steps.{after}
use Rattle.cfn_proof.specs.declared.path.Leg.{Leg}
use Rattle.cfn_proof.specs.Legs.{event_of, path_of}
use Rattle.cfn_proof.proofs.Parting.{with_leg}
use Rattle.cfn_proof.proofs.path.Path.enter.Goals as goal

pub returns-clause-ok : goal.returns-clause-ok
returns-clause-ok c =
    let root = c.self.inside.root in
    let legs = c.self.inside.legs.items in
    let leg : Leg = record { side = c.args.side; block = c.in_ok-block.block } in
    ap (path_of root) c.in_ok-push.ensures.items
    ∙ with_leg root legs leg
    ∙ ap (λ block. after block (event_of c.args.side ∷ path_of root legs)) c.in_ok-block.ensures
    ∙ ap (λ path. after c.args.block.now (event_of c.args.side ∷ path)) c.self.view_is

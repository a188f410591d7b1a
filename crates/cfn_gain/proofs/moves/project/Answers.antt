use Rattle.std.proofs.Common.{refl}
use Rattle.cfn_model.specs.declared.step.Step.TheVariants.{Project}
use Rattle.cfn_gain.proofs.Moving.{step_does}
use Rattle.cfn_gain.proofs.moves.project.Goals as goal

pub returns-clause-does : goal.returns-clause-does
returns-clause-does c =
    let fits = c.requires.fits in
    step_does c.args.store.now c.project.new.self c.args.limits (Project c.args.f c.args.place c.args.value c.args.amount) c.requires.goes (fits.place, fits.some, fits.enough) c.in_ok-room.ensures.ok refl c.project.ensures

use Rattle.std.proofs.Common.{refl}
use Rattle.cfn_model.specs.declared.step.Step.TheVariants.{Extend}
use Rattle.cfn_gain.proofs.Moving.{step_does}
use Rattle.cfn_gain.proofs.moves.extend.Goals as goal

pub returns-clause-does : goal.returns-clause-does
returns-clause-does c =
    let fits = c.requires.fits in
    step_does c.args.store.now c.extend.new.self c.args.limits (Extend c.args.f c.args.place c.args.value c.args.amount) c.requires.goes (fits.place, fits.some, fits.enough) c.in_ok-room.ensures.ok refl c.extend.ensures

use Rattle.std.proofs.Common.{refl}
use Rattle.cfn_model.specs.declared.step.Step.TheVariants.{CutTuple}
use Rattle.cfn_gain.proofs.Moving.{step_does}
use Rattle.cfn_gain.proofs.moves.cut_tuple.Goals as goal

pub returns-clause-does : goal.returns-clause-does
returns-clause-does c = step_does c.args.store.now c.cut_tuple.new.self c.args.limits (CutTuple c.args.f c.args.cell) c.requires.goes (c.requires.cell, c.requires.reaches) c.in_ok-room.ensures.ok refl c.cut_tuple.ensures

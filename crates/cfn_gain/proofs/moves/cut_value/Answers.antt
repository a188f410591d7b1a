use Rattle.std.proofs.Common.{refl}
use Rattle.cfn_model.specs.declared.step.Step.TheVariants.{CutValue}
use Rattle.cfn_gain.proofs.Moving.{step_does}
use Rattle.cfn_gain.proofs.Gaining.{gains_refused, due_cut, cut_closes}
use Rattle.cfn_gain.proofs.moves.cut_value.Goals as goal

pub returns-clause-does : goal.returns-clause-does
returns-clause-does c = step_does c.args.store.now c.cut_value.new.self c.args.limits (CutValue c.args.x c.args.value) c.requires.goes (c.requires.value, c.requires.reaches) c.in_ok-room.ensures.ok refl c.cut_value.ensures

pub returns-in_err-room-clause-gains : goal.returns-in_err-room-clause-gains
returns-in_err-room-clause-gains c = λ live before begins.
    let s = c.args.store.now in let q = c.requires in
    gains_refused before s s c.args.limits c.from_residual.result c.in_err-room.field-0.0 begins (due_cut s c.args.limits c.args.x c.args.value q.value live q.reaches) refl c.in_err-room.ensures.err c.from_residual.ensures.1

pub returns-clause-gains : goal.returns-clause-gains
returns-clause-gains c = λ live before begins. cut_closes before c.args.store.now c.cut_value.new.self c.args.x c.args.value begins live c.cut_value.ensures

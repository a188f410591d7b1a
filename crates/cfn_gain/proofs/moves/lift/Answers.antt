use Rattle.std.proofs.Common.{refl, ap, ◌∙◌, arith}
use Rattle.cfn_model.specs.declared.step.Step.TheVariants.{Lift}
use Rattle.cfn_store.specs.Standing.{with_step}
use Rattle.cfn_gain.proofs.Moving.{lift_does, lift_dead}
use Rattle.cfn_gain.proofs.Gaining.{gains_refused, due_lift, lift_closes}
use Rattle.cfn_gain.proofs.moves.lift.Goals as goal

pub returns-then-least-lacks-clause-does : goal.returns-then-least-lacks-clause-does
returns-then-least-lacks-clause-does c =
    let q = c.requires in
    lift_does c.args.store.now c.lift.new.self c.args.limits c.args.x c.args.least c.min.result c.lacking-lacks.result q.goes q.variable q.least q.some c.lacking-lacks.ensures c.min.ensures c.if-least-lacks.true c.in_ok-room.ensures.ok c.lift.ensures

pub returns-else-least-lacks-clause-does : goal.returns-else-least-lacks-clause-does
returns-else-least-lacks-clause-does c =
    let q = c.requires in
    lift_dead c.args.store.now c.lift.new.self c.args.limits c.args.x c.args.least c.min.result c.lacking-lacks.result q.goes q.variable q.least c.lacking-lacks.ensures c.min.ensures c.if-least-lacks.false c.in_ok-room.ensures.ok c.lift.ensures

pub returns-in_err-room-clause-gains : goal.returns-in_err-room-clause-gains
returns-in_err-room-clause-gains c = λ before begins.
    let s = c.args.store.now in let q = c.requires in
    gains_refused before s s c.args.limits c.from_residual.result c.in_err-room.field-0.0 begins (due_lift s c.args.limits c.args.x c.args.least q.variable q.least q.some) refl c.in_err-room.ensures.err c.from_residual.ensures.1

pub returns-then-least-lacks-clause-gains : goal.returns-then-least-lacks-clause-gains
returns-then-least-lacks-clause-gains c = λ before begins. lift_closes before c.args.store.now c.lift.new.self c.args.x c.min.result begins c.lift.ensures

pub returns-else-least-lacks-clause-gains : goal.returns-else-least-lacks-clause-gains
returns-else-least-lacks-clause-gains c = λ before begins. lift_closes before c.args.store.now c.lift.new.self c.args.x c.min.result begins c.lift.ensures

pub returns-then-least-lacks-clause-made : goal.returns-then-least-lacks-clause-made
returns-then-least-lacks-clause-made c =
    let m = c.min.ensures in let less = c.if-least-lacks.true in
    c.lift.ensures ∙ ap (λ n. with_step c.args.store.now (Lift c.args.x n)) (omega (arith, m, less))

pub returns-else-least-lacks-clause-dead : goal.returns-else-least-lacks-clause-dead
returns-else-least-lacks-clause-dead c = λ is.
    (let m = c.min.ensures in let more = c.if-least-lacks.false in let sum = c.lacking-lacks.ensures in
    c.lift.ensures ∙ ap (λ n. with_step c.args.store.now (Lift c.args.x n)) (omega (arith, m, more, sum)))

pub returns-else-least-lacks-clause-short : goal.returns-else-least-lacks-clause-short
returns-else-least-lacks-clause-short c = λ is. (let more = c.if-least-lacks.false in let sum = c.lacking-lacks.ensures in omega (arith, more, sum))

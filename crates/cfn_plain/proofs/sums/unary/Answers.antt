use Rattle.std.proofs.Common.{arith}
use Rattle.std.proofs.lemmas.Int.{ints}
use Rattle.std.proofs.lemmas.List.{at_drop_more}
use Rattle.cfn_model.specs.declared.step.Event.TheVariants.{Did}
use Rattle.cfn_model.specs.declared.step.Step.TheVariants.{Project}
use Rattle.cfn_model.specs.Sums.{unary}
use Rattle.cfn_plain.proofs.sums.unary.Goals as goal

pub loop-event-preserved : goal.loop-event-preserved
loop-event-preserved c =
    let there = c.loop-event-test.true in
    let next = at_drop_more (λ h. unary c.args.network.now h c.args.x c.args.value) c.args.history.now c.loop-event.event-index (Did (Project 0 0 0 0)) (omega arith) in
    record { rest = omega (arith, ints, next); low = omega (arith, ints); high = omega (arith, ints) }

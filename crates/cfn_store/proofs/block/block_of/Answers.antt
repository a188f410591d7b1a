use Rattle.std.proofs.Common.{◌++◌, ◌∷◌, [], take, get_or, sym, ap, ◌∙◌}
use Rattle.std.proofs.lemmas.List.{take_more}
use Rattle.cfn_model.specs.declared.step.Step.TheVariants.{Project}
use Rattle.cfn_model.specs.declared.step.Event.{Event}
use Rattle.cfn_model.specs.declared.step.Event.TheVariants.{Did}
use Rattle.cfn_store.specs.Events.{steps_in}
use Rattle.cfn_store.proofs.Along.{steps_joined}
use Rattle.cfn_store.proofs.Stores.{step_at}
use Rattle.cfn_store.proofs.block.block_of.Goals as goal

pub add-requires : goal.add-requires
add-requires c = λ step is. step_at c.args.events.now c.loop-event.event-index (Did (Project 0 0 0 0)) step c.loop-event-test.true c.requires is

pub loop-event-preserved : goal.loop-event-preserved
loop-event-preserved c =
    let event : Event = get_or c.args.events.now c.loop-event.event-index (Did (Project 0 0 0 0)) in
    c.in_ok-add.ensures ∙ ap (λ l. l ++ steps_in (event ∷ [])) c.loop-event.invariant
    ∙ sym (steps_joined (take c.loop-event.event-index c.args.events.now) (event ∷ []))
    ∙ ap steps_in (sym (take_more c.args.events.now c.loop-event.event-index (Did (Project 0 0 0 0)) c.loop-event-test.true))

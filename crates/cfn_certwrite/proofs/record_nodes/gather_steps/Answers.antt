use Rattle.std.proofs.Common.{◌++◌, map, refl, ap}
use Rattle.cfn_model.specs.Text.{line, step_words, text}
use Rattle.cfn_certwrite.proofs.Gathering.{go_on, break, add}
use Rattle.cfn_certwrite.proofs.record_nodes.gather_steps.Goals as goal

pub returns-in_err-make_room : goal.returns-in_err-make_room
returns-in_err-make_room g c =
    break _ c.from_residual.ensures.0 (text (map step_words c.loop-step.step-iterator)) refl c.loop-step.invariant c.in_err-make_room.ensures.put

pub loop-step-preserved : goal.loop-step-preserved
loop-step-preserved g c =
    add _ _ _ c.add_step.ensures
    (go_on (line (step_words c.in-Some.step) ++ text (map step_words c.next.new.self))
    (ap (λ steps. c.loop-step.batch ++ text (map step_words steps)) c.in-Some.ensures.steps)
    c.loop-step.invariant c.in_ok-make_room.ensures.put)

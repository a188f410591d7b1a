use Rattle.std.proofs.Common.{ap, map}
use Rattle.cfn_model.specs.Text.{step_words, text}
use Rattle.cfn_line.proofs.CallerLemmas.{begin, go_on, halt}
use Rattle.cfn_certwrite.proofs.nodes.put_steps.Goals as goal

pub loop-step-init : goal.loop-step-init
loop-step-init g c = rw c.into_iter-step-iterator.ensures.into_iter_gives (rw c.cursor-step-items.ensures.steps (begin _ _ _ c.requires))

pub put_step-requires : goal.put_step-requires
put_step-requires g c = c.loop-step.invariant.appends.still

pub returns-in_err-put_step : goal.returns-in_err-put_step
returns-in_err-put_step g c = halt _ c.from_residual.ensures.0 _ (ap (λ steps. text (map step_words steps)) c.in-Some.ensures.steps) c.loop-step.invariant c.in_err-put_step.ensures

pub loop-step-preserved : goal.loop-step-preserved
loop-step-preserved g c = go_on _ (ap (λ steps. text (map step_words steps)) c.in-Some.ensures.steps) c.loop-step.invariant c.in_ok-put_step.ensures

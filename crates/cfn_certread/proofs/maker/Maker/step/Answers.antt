use Rattle.std.proofs.Common.{◌∷◌, reverse, sym, ◌∙◌}
use Rattle.cfn_certtext.specs.Reading.{step_of}
use Rattle.cfn_certread.specs.declared.maker.Due.TheVariants.{Read}
use Rattle.cfn_certread.specs.Making.{AreDue, all_due}
use Rattle.cfn_certread.proofs.Growing.{step_read, step_stops, step_skipped, step_making, stop_making, found, not_found}
use Rattle.cfn_certread.proofs.maker.Maker.step.Goals as goal

pub returns-in_default-here : goal.returns-in_default-here
returns-in_default-here c =
    let i = c.self.inside in
    rw (← c.self.view_is, c.in-Some.is) (step_skipped i.tree i.block c.in-Some.here (reverse i.waiting.items) (step_of c.args.step) c.in_default-here.not-Read)

pub invariant_of-self-in-Some-small_step : goal.invariant_of-self-in-Some-small_step
invariant_of-self-in-Some-small_step c =
    let i = c.self.inside in
    let is = found _ _ _ (sym c.small_step.ensures ∙ c.in-Some-small_step.is) in
    rw (c.in_ok-push-in-Some-small_step.ensures.ok, ← is.1) (step_making i.tree i.block (all_due i.here (reverse i.waiting.items)) (step_of c.args.step) c.self.invariant is.0)

pub returns-in_ok-push-in-Some-small_step : goal.returns-in_ok-push-in-Some-small_step
returns-in_ok-push-in-Some-small_step c =
    let i = c.self.inside in
    let is = found _ _ _ (sym c.small_step.ensures ∙ c.in-Some-small_step.is) in
    rw (← c.self.view_is, c.in-Some.is, c.in-Read.is, c.in_ok-push-in-Some-small_step.ensures.ok, ← is.1) (step_read i.tree i.block c.in-Read.leaf (reverse i.waiting.items) (step_of c.args.step))

pub invariant_of-self-in-None : goal.invariant_of-self-in-None
invariant_of-self-in-None c =
    let i = c.self.inside in
    let are : AreDue i.tree (Read c.in-Read.leaf ∷ reverse i.waiting.items) = rw (c.in-Some.is, c.in-Read.is) at c.self.invariant.due in
    rw (c.leave.ensures, c.taken-block.ensures.left, c.taken-block.ensures.steps) (stop_making i.tree i.block c.in-Read.leaf (reverse i.waiting.items) are)

pub returns-in-None : goal.returns-in-None
returns-in-None c =
    let i = c.self.inside in
    let are : AreDue i.tree (Read c.in-Read.leaf ∷ reverse i.waiting.items) = rw (c.in-Some.is, c.in-Read.is) at c.self.invariant.due in
    let is = not_found _ _ (sym c.small_step.ensures ∙ c.in-None.is) in
    rw (← c.self.view_is, c.in-Some.is, c.in-Read.is, c.leave.ensures, c.taken-block.ensures.left, c.taken-block.ensures.steps) (step_stops i.tree i.block c.in-Read.leaf (reverse i.waiting.items) (step_of c.args.step) are c.self.invariant.small is)

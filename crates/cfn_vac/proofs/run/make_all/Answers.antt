use Rattle.cfn_vac.proofs.Running.{making_more, refused_at}
use Rattle.cfn_vac.proofs.run.make_all.Goals as goal

pub loop-step-preserved : goal.loop-step-preserved
loop-step-preserved c =
    making_more c.args.store.now c.loop-step.store c.make.new.store c.args.factor c.args.steps.now c.loop-step.left.now c.in-Some.rest.now c.in-Some.step.now c.loop-step.invariant c.in-Some.ensures.cases.0 c.in_ok-make.ensures.made c.in_ok-make.ensures.now

pub returns-in_err-make-clause-refused : goal.returns-in_err-make-clause-refused
returns-in_err-make-clause-refused c =
    let is = c.in_err-make.ensures in
    refused_at c.args.store.now c.loop-step.store c.args.factor c.args.steps.now c.loop-step.left.now c.in-Some.rest.now c.in-Some.step.now c.in_err-make.field-0.0 c.from_residual.result c.loop-step.invariant c.in-Some.ensures.cases.0 is.number is.step is.room is.short c.from_residual.ensures.1

use Rattle.std.proofs.Common.{refl, sym, subst}
use Rattle.cfn_store.specs.Standing.{Standing}
use Rattle.cfn_trim.specs.Trimming.{AreSome}
use Rattle.cfn_trim.proofs.Running.{running_past, running_made, running_some}
use Rattle.cfn_trim.proofs.run.run.Goals as goal

pub loop-step-preserved-then-ne : goal.loop-step-preserved-then-ne
loop-step-preserved-then-ne c =
    running_past c.args.store.now c.loop-step.store c.args.whole.now c.loop-step.step-iterator c.next.new.self c.in-Some.step c.args.threshold c.loop-step.invariant c.in-Some.ensures.steps

pub returns-then-not-make-clause-some : goal.returns-then-not-make-clause-some
returns-then-not-make-clause-some c =
    subst (λ (t : Standing). AreSome t.block c.args.whole.now) (sym (c.if-not-make.ensures.unchanged refl))
    (running_some c.args.store.now c.loop-step.store c.args.whole.now c.loop-step.step-iterator c.args.threshold c.loop-step.invariant)

pub loop-step-preserved : goal.loop-step-preserved
loop-step-preserved c =
    running_made c.args.store.now c.loop-step.store c.make.new.store c.args.whole.now c.loop-step.step-iterator c.next.new.self c.in-Some.step c.args.threshold c.loop-step.invariant c.in-Some.ensures.steps (c.if-not-make.ensures.can refl) (c.if-not-make.ensures.made refl)

use Rattle.std.proofs.Common.{◌-◌, drop, take_all, sym, subst, arith}
use Rattle.std.proofs.lemmas.List.{length-drop}
use Rattle.cfn_model.specs.Steps.{InRange}
use Rattle.cfn_scan.proofs.CallerLemmas.{exact_here}
use Rattle.cfn_store.specs.Standing.{history}
use Rattle.cfn_due.proofs.Noting.{step_in_range}
use Rattle.cfn_due.specs.Siding.{AreAsked}
use Rattle.cfn_due.proofs.Asking.{GoesWithSteps, side_steps_none, side_steps_more, supported_along}
use Rattle.cfn_due.proofs.sides.Sides.note_steps.Goals as goal

pub loop-i-init : goal.loop-i-init
loop-i-init c = side_steps_none c.args.incidence.now c.args.self.now (drop c.args.start c.args.store.now.block) _ (omega arith)

pub note_step-requires-clause-range : goal.note_step-requires-clause-range
note_step-requires-clause-range c =
    let s = c.args.store.now in
    let there = c.loop-i-test.true in
    let range = (exact_here s.network (history s) c.law_exact.ensures).range in
    subst (λ P. InRange P c.step.result) (sym c.requires.incidence)
    (subst (InRange s.network) (c.step.ensures c.step.result) (step_in_range s.network s.block s.base c.loop-i.i c.step.result (omega (arith, there, c.block_len-i-end.ensures)) range))

pub loop-i-preserved : goal.loop-i-preserved
loop-i-preserved c =
    let there = c.loop-i-test.true in
    side_steps_more c.args.incidence.now c.args.store.now.block c.args.start c.loop-i.i c.step.result c.args.self.now c.loop-i.self c.note_step.new.self c.loop-i.auto.i (omega (arith, there, c.block_len-i-end.ensures)) (c.step.ensures c.step.result)
    c.loop-i.invariant c.note_step.ensures

pub returns-clause-known : goal.returns-clause-known
returns-clause-known c = λ known.
    let s = c.args.store.now in
    let long = length-drop c.args.start s.block in
    let all = take_all (c.loop-i.i - c.args.start) (drop c.args.start s.block) (omega (arith, long, c.loop-i-test.false, c.block_len-i-end.ensures)) in
    supported_along s.network s.block s.base c.args.start c.args.self.now c.loop-i.self c.law_exact.ensures
    (subst (λ P. AreAsked P c.args.self.now c.loop-i.self (GoesWithSteps P (drop c.args.start s.block))) c.requires.incidence
    (subst (λ steps. AreAsked c.args.incidence.now c.args.self.now c.loop-i.self (GoesWithSteps c.args.incidence.now steps)) all c.loop-i.invariant)) known

use Rattle.std.proofs.Common.{◌-◌, drop, take_all, sym, subst, arith}
use Rattle.std.proofs.lemmas.List.{length-drop}
use Rattle.std.specs.Prelude.{IfSome}
use Rattle.cfn_model.specs.declared.step.Event.TheVariants.{Did}
use Rattle.cfn_model.specs.Network.{IsNetwork}
use Rattle.cfn_model.specs.Steps.{InRange}
use Rattle.cfn_scan.proofs.CallerLemmas.{exact_here}
use Rattle.cfn_store.specs.Standing.{history}
use Rattle.cfn_due.specs.Going.{GoesFull, GoesWithOne}
use Rattle.cfn_due.proofs.Noting.{step_in_range}
use Rattle.cfn_due.specs.Resting.{AreDoubted, IsDoubted}
use Rattle.cfn_due.proofs.Doubting.{steps_none, steps_more, sure_along}
use Rattle.cfn_due.proofs.rests.Rests.note_steps.Goals as goal

pub loop-i-init : goal.loop-i-init
loop-i-init c = record {
  doubted = steps_none c.args.store.now.network c.args.self.now (drop c.args.start c.args.store.now.block) _ (omega arith);
  last = tt;
}

pub note_step-requires-clause-range : goal.note_step-requires-clause-range
note_step-requires-clause-range c =
    let s = c.args.store.now in
    let there = c.loop-i-test.true in
    let range = (exact_here s.network (history s) c.law_exact.ensures).range in
    subst (λ P. InRange P c.step.result) (sym c.network-network.ensures)
    (subst (InRange s.network) (c.step.ensures c.step.result) (step_in_range s.network s.block s.base c.loop-i.i c.step.result (omega (arith, there, c.block_len-i-end.ensures)) range))

pub note_step-requires-clause-last : goal.note_step-requires-clause-last
note_step-requires-clause-last c = subst (λ P. IfSome c.loop-i.last (IsDoubted P c.loop-i.self)) (sym c.network-network.ensures) c.loop-i.invariant.last

pub loop-i-preserved : goal.loop-i-preserved
loop-i-preserved c =
    let s = c.args.store.now in
    let there = c.loop-i-test.true in
    record {
      doubted = steps_more s.network s.block c.args.start c.loop-i.i c.step.result c.args.self.now c.loop-i.self c.note_step.new.self c.loop-i.auto.i (omega (arith, there, c.block_len-i-end.ensures)) (c.step.ensures c.step.result)
          c.loop-i.invariant.doubted (subst (λ P. AreDoubted c.loop-i.self c.note_step.new.self (GoesFull P (Did c.step.result))) c.network-network.ensures c.note_step.ensures.doubted);
      last = subst (λ P. IfSome c.note_step.new.last (IsDoubted P c.note_step.new.self)) c.network-network.ensures c.note_step.ensures.last;
    }

pub returns : goal.returns
returns c = λ sure.
    let s = c.args.store.now in
    let long = length-drop c.args.start s.block in
    let all = take_all (c.loop-i.i - c.args.start) (drop c.args.start s.block) (omega (arith, long, c.loop-i-test.false, c.block_len-i-end.ensures)) in
    sure_along s.network s.block s.base c.args.start c.args.self.now c.loop-i.self (subst IsNetwork c.network-network.ensures c.law_limits.ensures) c.law_exact.ensures
    (subst (λ steps. AreDoubted c.args.self.now c.loop-i.self (GoesWithOne (GoesFull s.network) steps)) all c.loop-i.invariant.doubted) sure

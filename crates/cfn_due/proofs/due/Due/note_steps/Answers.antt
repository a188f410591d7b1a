use Rattle.std.proofs.Common.{◌-◌, drop, take_all, sym, subst, arith}
use Rattle.std.proofs.lemmas.List.{length-drop}
use Rattle.cfn_model.specs.declared.step.Event.TheVariants.{Did}
use Rattle.cfn_model.specs.Network.{IsNetwork}
use Rattle.cfn_model.specs.Steps.{InRange}
use Rattle.cfn_scan.proofs.CallerLemmas.{exact_here}
use Rattle.cfn_store.specs.Standing.{history}
use Rattle.cfn_due.specs.Going.{IsNoted, AreNoted}
use Rattle.cfn_due.specs.Remembered.{IsLast}
use Rattle.cfn_due.proofs.Noting.{noted_next, step_in_range, block_holds}
use Rattle.cfn_due.proofs.due.Due.note_steps.Goals as goal

pub note_step-requires-clause-range : goal.note_step-requires-clause-range
note_step-requires-clause-range c =
    let s = c.args.store.now in
    let there = c.loop-i-test.true in
    let range = (exact_here s.network (history s) c.law_exact.ensures).range in
    subst (λ P. InRange P c.step.result) (sym c.network-network.ensures)
    (subst (InRange s.network) (c.step.ensures c.step.result) (step_in_range s.network s.block s.base c.loop-i.i c.step.result (omega (arith, there, c.block_len-i-end.ensures)) range))

pub loop-i-preserved : goal.loop-i-preserved
loop-i-preserved c =
    let s = c.args.store.now in
    let there = c.loop-i-test.true in
    record {
      noted = noted_next s.network s.block c.args.start c.loop-i.i c.step.result c.args.self.now c.loop-i.self c.note_step.new.self c.loop-i.auto.i (omega (arith, there, c.block_len-i-end.ensures)) (c.step.ensures c.step.result)
          c.loop-i.invariant.noted (subst (λ P. IsNoted P (Did c.step.result) c.loop-i.self c.note_step.new.self) c.network-network.ensures c.note_step.ensures.noted);
      last = subst (λ P. IsLast P c.note_step.new.last c.note_step.new.self) c.network-network.ensures c.note_step.ensures.last;
    }

pub returns-clause-keeps : goal.returns-clause-keeps
returns-clause-keeps c = λ holds.
    let s = c.args.store.now in
    let long = length-drop c.args.start s.block in
    let all = take_all (c.loop-i.i - c.args.start) (drop c.args.start s.block) (omega (arith, long, c.loop-i-test.false, c.block_len-i-end.ensures)) in
    block_holds s.network s.block s.base c.args.start c.args.self.now c.loop-i.self (subst IsNetwork c.network-network.ensures c.law_limits.ensures) c.law_exact.ensures
    (subst (λ steps. AreNoted s.network steps c.args.self.now c.loop-i.self) all c.loop-i.invariant.noted) holds

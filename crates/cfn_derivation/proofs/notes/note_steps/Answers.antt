use Rattle.std.proofs.Common.{◌<◌, length, take, ◌∙◌, sym, subst, arith}
use Rattle.cfn_model.specs.declared.step.Event.TheVariants.{Did}
use Rattle.cfn_model.specs.Steps.{InRange, after}
use Rattle.cfn_due.specs.Going.{GoesArc}
use Rattle.cfn_store.specs.Standing.{history}
use Rattle.cfn_scan.proofs.CallerLemmas.{exact_here}
use Rattle.cfn_derivation.specs.Watched.{TouchedAre, CostlyAre, Grows, Rises}
use Rattle.cfn_derivation.proofs.Noting.{step_in_range, next_after, debts_after, whole_block, touched_on, costly_on}
use Rattle.cfn_derivation.proofs.notes.note_steps.Goals as goal

pub touch-requires-clause-range : goal.touch-requires-clause-range
touch-requires-clause-range c =
    let s = c.args.store.now in
    let there = c.loop-i-test.true in
    let range = (exact_here s.network (history s) c.law_exact.ensures).range in
    subst (λ P. InRange P c.step-step.result) (sym c.network-network.ensures)
    (subst (InRange s.network) (c.step-step.ensures c.step-step.result) (step_in_range s.network s.block s.base c.loop-i.i c.step-step.result (omega (arith, there, c.block_len-i-end.ensures)) range))

pub raise-requires-clause-range : goal.raise-requires-clause-range
raise-requires-clause-range c =
    let s = c.args.store.now in
    let there = c.loop-i-test.true in
    let range = (exact_here s.network (history s) c.law_exact.ensures).range in
    subst (λ P. InRange P c.step-step.result) (sym c.network-network.ensures)
    (subst (InRange s.network) (c.step-step.ensures c.step-step.result) (step_in_range s.network s.block s.base c.loop-i.i c.step-step.result (omega (arith, there, c.block_len-i-end.ensures)) range))

pub loop-i-preserved : goal.loop-i-preserved
loop-i-preserved c =
    let s = c.args.store.now in let i = c.loop-i.i in let step = c.step-step.result in
    let there : i < length s.block = (let t = c.loop-i-test.true in let e = c.block_len-i-end.ensures in omega (arith, t, e)) in
    let next = next_after s.block s.base i step there (c.step-step.ensures step) in
    let debts = debts_after s.network s.block s.base i step there (c.step-step.ensures step) c.law_exact.ensures in
    let touches = subst (λ P. Grows (GoesArc P (Did step)) c.loop-i.touched c.touch.new.touched) c.network-network.ensures c.touch.ensures in
    let rises = subst (λ P. Grows (Rises P step) c.loop-i.costly c.raise.new.costly) c.network-network.ensures c.raise.ensures in
    record {
      touched_size = touches.size ∙ c.loop-i.invariant.touched_size;
      costly_size = rises.size ∙ c.loop-i.invariant.costly_size;
      functions = λ are. subst (λ h. TouchedAre s.network h c.touch.new.touched.items) (sym next)
          (touched_on s.network (after (take i s.block) s.base) step c.loop-i.touched c.touch.new.touched debts touches (c.loop-i.invariant.functions are));
      variables = λ q are. subst (λ h. CostlyAre s.network h q c.raise.new.costly.items) (sym next)
          (costly_on s.network (after (take i s.block) s.base) step q c.loop-i.costly c.raise.new.costly rises (c.loop-i.invariant.variables q are));
    }

pub returns-clause-functions : goal.returns-clause-functions
returns-clause-functions c = λ are.
    (let s = c.args.store.now in
    let whole = whole_block s.block s.base c.loop-i.i (let t = c.loop-i-test.false in let e = c.block_len-i-end.ensures in omega (arith, t, e)) in
    subst (λ h. TouchedAre s.network h c.loop-i.touched.items) whole (c.loop-i.invariant.functions are))

pub returns-clause-variables : goal.returns-clause-variables
returns-clause-variables c = λ q are.
    (let s = c.args.store.now in
    let whole = whole_block s.block s.base c.loop-i.i (let t = c.loop-i-test.false in let e = c.block_len-i-end.ensures in omega (arith, t, e)) in
    subst (λ h. CostlyAre s.network h q c.loop-i.costly.items) whole (c.loop-i.invariant.variables q are))

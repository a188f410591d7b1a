use Rattle.std.proofs.Common.{◌≡◌, ℕ, ◌∙◌, sym, subst, arith}
use Rattle.cfn_model.specs.Network.{Network}
use Rattle.cfn_machine.specs.Pool.{View}
use Rattle.cfn_machine.specs.Steps as steps
use Rattle.cfn_machine.specs.Steps.{PoolReturns, PoolRecalls, PoolSweeps, PoolNotes, PoolMeets, PoolGives, IsNotOut, IsOut}
use Rattle.cfn_leaves.specs.Value.{Holding as Leaves, pool_of}
use Rattle.cfn_low.specs.Holding.{Holding as Part}
use Rattle.cfn_pool.specs.Views.{Held, pool, view_of}
use Rattle.cfn_pool.specs.Recorded.{value_of}
use Rattle.cfn_pool.proofs.Recorded.{swept_exactly}
use Rattle.cfn_pool.proofs.Kept.{held, kept_by_step, price_is}
use Rattle.cfn_net.specs.Scoring.{Scoring, IsPriced}
use Rattle.cfn_pool.specs.Answers.{Sweeps}
use Rattle.cfn_pool.proofs.pool.Pool.sweep.Goals as goal

-- where the word was looked at, free leaves are swept
swept : (P : Network) (old new : Leaves) (before after : Part) (word : ℕ) → old.network ≡ P → after ≡ record before { seen = word } →
    ((view : View) → PoolSweeps old.network (pool_of old view) word (pool_of new (record view { seen = word }))) → PoolSweeps P (pool_of old (view_of before)) word (pool_of new (view_of after))
swept P old new before after word own looked sweeps =
    subst (λ (part : Part). PoolSweeps P (pool_of old (view_of before)) word (pool_of new (view_of part))) (sym looked)
    (subst (λ (Q : Network). PoolSweeps Q (pool_of old (view_of before)) word (pool_of new (view_of (record before { seen = word })))) own (sweeps (view_of before)))

pub invariant_of-self : goal.invariant_of-self
invariant_of-self g c =
    let part = c.self.inside.holder in
    let now = c.look-word.new.holder in
    let old = held c.self.inside.leaves part c.self.inside.recording in
    let new = held c.sweep.new.self now c.swept.new.self in
    record {
      room = c.swept.ensures.room;
      held = kept_by_step g.M.Incumbent.network old new c.look-word.result steps.Sweeps c.law_kept.ensures.reached (c.sweep.ensures.network ∙ c.self.invariant.held.own) c.self.invariant.held c.look-word.ensures.falls
          (swept g.M.Incumbent.network c.self.inside.leaves c.sweep.new.self part now c.look-word.result c.self.invariant.held.own c.look-word.ensures.seen c.sweep.ensures.sweeps)
          c.swept.ensures.adds;
    }

pub returns-clause-sweeps : goal.returns-clause-sweeps
returns-clause-sweeps g c =
    let part = c.self.inside.holder in
    let now = c.look-word.new.holder in
    let price = price_is g.M.Incumbent.network part.held (subst (λ (s : Scoring). IsPriced s.network s.held) c.best.ensures c.law_priced.ensures) in
    subst (λ (old : Held). Sweeps g.M.Incumbent.network (pool old) (pool (held c.sweep.new.self now c.swept.new.self))) c.self.view_is (record {
      word = c.look-word.result;
      falls = c.look-word.ensures.falls;
      below = let b = c.look-word.ensures.below in omega (arith, b, price);
      whole = λ all. c.look-word.ensures.whole all ∙ sym price;
      sweeps = swept g.M.Incumbent.network c.self.inside.leaves c.sweep.new.self part now c.look-word.result c.self.invariant.held.own c.look-word.ensures.seen c.sweep.ensures.sweeps;
    })

pub returns-clause-recorded : goal.returns-clause-recorded
returns-clause-recorded g c =
    let part = c.self.inside.holder in
    let now = c.look-word.new.holder in
    swept_exactly g.M.Incumbent.network (pool_of c.self.inside.leaves (view_of part)) (pool_of c.sweep.new.self (view_of now)) c.look-word.result (value_of c.self.inside.recording) (value_of c.swept.new.self) c.look-word.ensures.falls
    (swept g.M.Incumbent.network c.self.inside.leaves c.sweep.new.self part now c.look-word.result c.self.invariant.held.own c.look-word.ensures.seen c.sweep.ensures.sweeps) c.self.invariant.held.recorded c.swept.ensures.adds

use Rattle.std.proofs.Common.{◌∙◌, [], subst}
use Rattle.cfn_machine.specs.Steps as steps
use Rattle.cfn_machine.specs.Steps.{PoolReturns, PoolRecalls, PoolSweeps, PoolNotes, PoolMeets, PoolGives, IsNotOut, IsOut}
use Rattle.cfn_pool.specs.Views.{Held, pool, view_of}
use Rattle.cfn_machine.specs.Pool.{Free, IsLeaf, Leaf, Out, Task}
use Rattle.cfn_machine.proofs.CallerLemmas.{replaced_leaf}
use Rattle.cfn_leaves.specs.Value.{Holding as Leaves, pool_of}
use Rattle.cfn_low.specs.Holding.{Holding as Part}
use Rattle.cfn_pool.specs.Recorded.{value_of}
use Rattle.cfn_pool.proofs.Fitting.{out_some, out_spelled}
use Rattle.cfn_pool.proofs.Kept.{held, kept_by_step}
use Rattle.cfn_pool.proofs.pool.Pool.back.Goals as goal

pub invariant_of-self : goal.invariant_of-self
invariant_of-self g c =
    let part = c.self.inside.holder in
    record {
      room = c.freed.ensures.room;
      held = kept_by_step g.M.Incumbent.network (held c.self.inside.leaves part c.self.inside.recording) (held c.back.new.self part c.freed.new.self) 0 (steps.Returns c.args.task.now.task) c.law_kept.ensures.reached (c.back.ensures.network ∙ c.self.invariant.held.own) c.self.invariant.held tt
          (c.back.ensures.back c.if-back.true (view_of part)) c.freed.ensures.adds;
    }

pub returns-else-back-clause-none : goal.returns-else-back-clause-none
returns-else-back-clause-none g c = λ no. subst (λ (old : Held). IsNotOut (pool old) c.args.task.now.task) c.self.view_is (c.back.ensures.none c.if-back.false (view_of c.self.inside.holder))

-- the task's leaf was out
was_out : (old new : Leaves) (part : Part) (task : Task) (back : PoolReturns (pool_of old (view_of part)) task (pool_of new (view_of part))) → IsLeaf (pool_of old (view_of part)).tree [] task.leaf (Out task.worker task.grant) back.path
was_out old new part task back = replaced_leaf task.leaf (Out task.worker task.grant) back.path (Leaf task.leaf Free []) (pool_of old (view_of part)).tree [] back.tree back.freed

pub freed-requires-clause-out : goal.freed-requires-clause-out
freed-requires-clause-out g c =
    let part = c.self.inside.holder in
    let task = c.args.task.now.task in
    let back = c.back.ensures.back c.if-back.true (view_of part) in
    out_some g.M.Incumbent.network (pool_of c.self.inside.leaves (view_of part)) task.leaf task.worker task.grant back.path (was_out c.self.inside.leaves c.back.new.self part task back) (value_of c.self.inside.recording) c.self.invariant.held.recorded

pub freed-requires-clause-spelled : goal.freed-requires-clause-spelled
freed-requires-clause-spelled g c =
    let part = c.self.inside.holder in
    let task = c.args.task.now.task in
    let back = c.back.ensures.back c.if-back.true (view_of part) in
    out_spelled g.M.Incumbent.network (pool_of c.self.inside.leaves (view_of part)) task.leaf task.worker task.grant back.path (was_out c.self.inside.leaves c.back.new.self part task back) (value_of c.self.inside.recording)
    c.self.invariant.held.pool_is c.law_numbered.ensures c.self.invariant.held.recorded

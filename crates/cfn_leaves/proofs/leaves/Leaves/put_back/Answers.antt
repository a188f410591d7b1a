use Rattle.std.proofs.Common.{sym, subst, arith}
use Rattle.cfn_machine.specs.Steps.{PoolReturns}
use Rattle.cfn_leaves.specs.Out.{IsOutEntry, task_at}
use Rattle.cfn_leaves.specs.Value.{Holding, pool_of}
use Rattle.cfn_leaves.proofs.Recalled.{freed, returned}
use Rattle.cfn_leaves.proofs.Insides.{value}
use Rattle.cfn_leaves.proofs.leaves.Leaves.put_back.Goals as goal

pub overflow_sub-self : goal.overflow_sub-self
overflow_sub-self c =
    let m = value c.self.inside in
    let entry = subst (λ (h : Holding). IsOutEntry h c.args.leaf c.args.worker c.args.grant c.in-Some.entry) (sym c.self.view_is) c.in-Some.ensures in
    let step = freed m c.self.inside.list c.free.new.list c.self.inside.opened c.self.inside.granted c.args.leaf c.args.worker c.args.grant c.in-Some.entry c.free.new.table.items
    c.law_same_before.ensures.once c.self.invariant.body entry.is entry.mark c.free.ensures.leaves c.free.ensures.room c.free.ensures.table in
    omega (arith, step.few, c.self.invariant.body.granted)

pub invariant_of-self : goal.invariant_of-self
invariant_of-self c =
    let m = value c.self.inside in
    let entry = subst (λ (h : Holding). IsOutEntry h c.args.leaf c.args.worker c.args.grant c.in-Some.entry) (sym c.self.view_is) c.in-Some.ensures in
    let step = freed m c.self.inside.list c.free.new.list c.self.inside.opened c.self.inside.granted c.args.leaf c.args.worker c.args.grant c.in-Some.entry c.free.new.table.items
    c.law_same_before.ensures.once c.self.invariant.body entry.is entry.mark c.free.ensures.leaves c.free.ensures.room c.free.ensures.table in
    record { body = step.body; within = omega (arith, c.self.invariant.within); few = c.self.invariant.few; place = c.self.invariant.place }

pub returns-clause-back : goal.returns-clause-back
returns-clause-back c = λ yes view floor path.
    let m = value c.self.inside in
    let entry = subst (λ (h : Holding). IsOutEntry h c.args.leaf c.args.worker c.args.grant c.in-Some.entry) (sym c.self.view_is) c.in-Some.ensures in
    let step = freed m c.self.inside.list c.free.new.list c.self.inside.opened c.self.inside.granted c.args.leaf c.args.worker c.args.grant c.in-Some.entry c.free.new.table.items
    c.law_same_before.ensures.once c.self.invariant.body entry.is entry.mark c.free.ensures.leaves c.free.ensures.room c.free.ensures.table in
    let task = task_at c.args.leaf c.args.worker c.args.grant floor path in
    let new : Holding = record m { table = c.free.new.table.items } in
    subst (λ (old : Holding). PoolReturns (pool_of old view) task (pool_of new view)) c.self.view_is (returned m c.free.new.table.items _ task step view)

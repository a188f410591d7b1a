use Rattle.std.proofs.Common.{◌∙◌, sym, subst}
use Rattle.cfn_machine.specs.Pool.{IsTask, Task}
use Rattle.cfn_machine.specs.Steps.{PoolTakes}
use Rattle.cfn_leaves.specs.declared.taking.Taken.{Taken}
use Rattle.cfn_leaves.specs.Answers.{Takes}
use Rattle.cfn_leaves.specs.Out.{task_at}
use Rattle.cfn_leaves.specs.Ways.{IsPathOf}
use Rattle.cfn_leaves.specs.Value.{Holding, pool_of}
use Rattle.cfn_leaves.proofs.Lending.{lent_task, taken, none_taken}
use Rattle.cfn_leaves.proofs.leaves.Leaves.take.Goals as goal

pub returns-in-Err-clause-takes : goal.returns-in-Err-clause-takes
returns-in-Err-clause-takes c = subst (λ (t : Taken). Takes c.args.self.now c.args.worker c.args.want t c.args.self.now) (sym c.none.ensures) (none_taken c.args.self.now c.args.worker c.args.want c.in-Err.lack c.in-Err.ensures)

pub of-task-requires : goal.of-task-requires
of-task-requires c =
    let old = c.args.self.now in
    let due = c.in-Ok.due in
    let of = subst (λ (h : Holding). IsPathOf h.tree due.node.number c.in-Ok-path_to.path) c.self.view_is c.in-Ok-path_to.ensures in
    let step = taken old c.lend-grant.new.self due c.from.result c.args.worker c.args.want c.from-leaf.result c.lend-grant.result c.in-Ok-path_to.path c.lend-grant.ensures.lends of c.from.ensures c.from-leaf.ensures c.lend-grant.ensures.grant in
    let task = task_at c.from-leaf.result c.args.worker c.lend-grant.result due.leaf.floor c.in-Ok-path_to.path in
    subst (λ P. IsTask P task) (sym c.requires.own) (lent_task old c.lend-grant.new.self c.args.worker c.args.want task c.requires.sound step)

pub returns-clause-takes : goal.returns-clause-takes
returns-clause-takes c =
    let old = c.args.self.now in
    let due = c.in-Ok.due in
    let of = subst (λ (h : Holding). IsPathOf h.tree due.node.number c.in-Ok-path_to.path) c.self.view_is c.in-Ok-path_to.ensures in
    let step = taken old c.lend-grant.new.self due c.from.result c.args.worker c.args.want c.from-leaf.result c.lend-grant.result c.in-Ok-path_to.path c.lend-grant.ensures.lends of c.from.ensures c.from-leaf.ensures c.lend-grant.ensures.grant in
    record {
      network = c.of-task.ensures.network ∙ c.requires.own;
      takes = λ view. subst (λ (t : Task). PoolTakes old.network (pool_of old view) c.args.worker c.args.want t (pool_of c.lend-grant.new.self view)) (sym c.of-task.ensures.task) (step view);
    }

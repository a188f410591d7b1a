use Rattle.std.proofs.Common.{◌∙◌, ℕ, subst}
use Rattle.cfn_machine.specs.Steps.{PoolReturns}
use Rattle.cfn_leaves.specs.Out.{task_at}
use Rattle.cfn_leaves.specs.Value.{pool_of}
use Rattle.cfn_leaves.proofs.leaves.Leaves.back.Goals as goal

pub returns-clause-back : goal.returns-clause-back
returns-clause-back c = λ yes view.
    let task = c.args.task.now.task in
    let T : ℕ → ℕ → ℕ → Type 0 = λ n w g. PoolReturns (pool_of c.args.self.now view) (task_at n w g task.floor task.path) (pool_of c.put_back.new.self view) in
    subst (λ n. T n task.worker task.grant) c.leaf.ensures
    (subst (λ w. T c.leaf.result w task.grant) (c.from.ensures ∙ c.worker.ensures)
    (subst (λ g. T c.leaf.result c.from.result g) c.grant.ensures (c.put_back.ensures.back yes view task.floor task.path)))

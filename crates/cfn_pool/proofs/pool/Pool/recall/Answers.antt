use Rattle.std.proofs.Common.{◌∙◌, subst}
use Rattle.cfn_machine.specs.Steps as steps
use Rattle.cfn_machine.specs.Steps.{PoolReturns, PoolRecalls, PoolSweeps, PoolNotes, PoolMeets, PoolGives, IsNotOut, IsOut}
use Rattle.cfn_pool.specs.Views.{Held, pool, view_of}
use Rattle.cfn_pool.proofs.Kept.{held, kept_by_step}
use Rattle.cfn_pool.proofs.pool.Pool.recall.Goals as goal

pub invariant_of-self : goal.invariant_of-self
invariant_of-self g c =
    let part = c.self.inside.holder in
    record { room = c.called_back.ensures.room; held = kept_by_step g.M.Incumbent.network (held c.self.inside.leaves part c.self.inside.recording) (held c.recall.new.self part c.called_back.new.self) 0 steps.Recalls c.law_kept.ensures.reached (c.recall.ensures.network ∙ c.self.invariant.held.own) c.self.invariant.held tt (c.recall.ensures.recalls (view_of part)) c.called_back.ensures.adds }

pub returns-clause-recalls : goal.returns-clause-recalls
returns-clause-recalls g c = subst (λ (old : Held). PoolRecalls (pool old) (pool (held c.recall.new.self c.self.inside.holder c.called_back.new.self))) c.self.view_is (c.recall.ensures.recalls (view_of c.self.inside.holder))

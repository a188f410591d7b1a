use Rattle.std.proofs.Common.{◌∙◌, refl, sym, subst}
use Rattle.cfn_model.specs.Network.{Network, IsNetwork}
use Rattle.cfn_machine.specs.Steps as steps
use Rattle.cfn_machine.specs.Steps.{PoolReturns, PoolRecalls, PoolSweeps, PoolNotes, PoolMeets, PoolGives, IsNotOut, IsOut}
use Rattle.cfn_leaves.specs.Value.{pool_of}
use Rattle.cfn_pool.specs.Views.{view_of}
use Rattle.cfn_pool.proofs.Kept.{held, kept_by_step}
use Rattle.cfn_pool.proofs.pool.Pool.note_now.Goals as goal

pub invariant_of-self : goal.invariant_of-self
invariant_of-self g c =
    let part = c.self.inside.holder in
    let notes = subst (λ (Q : Network). PoolNotes Q (pool_of c.self.inside.leaves (view_of part)) (pool_of c.note.new.self (view_of part))) c.self.invariant.held.own (c.note.ensures.notes (view_of part) (sym c.seen.ensures)) in
    record {
      room = c.self.invariant.room;
      held = kept_by_step g.M.Incumbent.network (held c.self.inside.leaves part c.self.inside.recording) (held c.note.new.self part c.self.inside.recording) 0 steps.Notes c.law_kept.ensures.reached (c.note.ensures.network ∙ c.self.invariant.held.own) c.self.invariant.held
          (subst IsNetwork c.requires.own c.law_limits.ensures) notes refl;
    }

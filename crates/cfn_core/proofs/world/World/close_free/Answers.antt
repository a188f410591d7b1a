use Rattle.std.proofs.Common.{refl, subst}
use Rattle.cfn_core.specs.Actions.{Acts, Sweep, Done}
use Rattle.cfn_core.specs.Machine.{Machine, world_of}
use Rattle.cfn_core.proofs.Insides.{value, changed}
use Rattle.cfn_core.proofs.Pools.{closed_free}
use Rattle.cfn_core.proofs.world.World.close_free.Goals as goal

pub invariant_of-self : goal.invariant_of-self
invariant_of-self c =
    let m = value c.self.inside in
    changed m _ c.self.inside.best c.self.inside.seats.items Sweep Done c.self.invariant tt (closed_free m c.self.invariant.machine.leaves c.sweep.new.self c.sweep.ensures.sweeps) refl c.sweep.ensures.network

pub returns-clause-acts : goal.returns-clause-acts
returns-clause-acts c =
    let m = value c.self.inside in
    subst (λ (old : Machine). Acts old.network (world_of old) Sweep Done (world_of (record m { leaves = c.sweep.new.self; view = record m.view { seen = m.word } }))) c.self.view_is
    (closed_free m c.self.invariant.machine.leaves c.sweep.new.self c.sweep.ensures.sweeps)

use Rattle.std.proofs.Common.{refl, subst}
use Rattle.cfn_core.specs.Actions.{Acts, Recall, Done}
use Rattle.cfn_core.specs.Machine.{Machine, world_of}
use Rattle.cfn_core.proofs.Insides.{value, changed}
use Rattle.cfn_core.proofs.Pools.{called_back}
use Rattle.cfn_core.proofs.world.World.call_back.Goals as goal

pub invariant_of-self : goal.invariant_of-self
invariant_of-self c =
    let m = value c.self.inside in
    changed m _ c.self.inside.best c.self.inside.seats.items Recall Done c.self.invariant tt (called_back m c.recall.new.self c.recall.ensures.recalls) refl c.recall.ensures.network

pub returns-clause-acts : goal.returns-clause-acts
returns-clause-acts c =
    let m = value c.self.inside in
    subst (λ (old : Machine). Acts old.network (world_of old) Recall Done (world_of (record m { leaves = c.recall.new.self }))) c.self.view_is (called_back m c.recall.new.self c.recall.ensures.recalls)

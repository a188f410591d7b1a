use Rattle.std.proofs.Common.{subst}
use Rattle.cfn_core.specs.Laws.{Always}
use Rattle.cfn_core.specs.Machine.{Machine, world_of}
use Rattle.cfn_core.proofs.Always.{always}
use Rattle.cfn_core.proofs.Insides.{value}
use Rattle.cfn_core.proofs.world.World.law_kept.Goals as goal

pub returns : goal.returns
returns c =
    let m = value c.self.inside in
    let is = c.self.invariant.machine in
    subst (λ (k : Machine). Always k.network (world_of k)) c.self.view_is (always m.network (world_of m) is.network is.world is.numbered is.handed)

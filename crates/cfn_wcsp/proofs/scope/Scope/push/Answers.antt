use Rattle.cfn_wcsp.proofs.Stamps.{stamped}
use Rattle.cfn_wcsp.proofs.scope.Scope.push.Goals as goal

pub invariant_of-self-2 : goal.invariant_of-self-2
invariant_of-self-2 c =
    let passed = rw (← c.self.view_is) at c.requires in
    rw c.in_ok-push.ensures.items (stamped c.self.inside.sizes.now c.self.inside.stamps.items c.self.inside.number c.self.inside.variables.items c.self.inside.cells c.args.x c.self.invariant passed)

use Rattle.std.proofs.Common.{subst}
use Rattle.cfn_rebase.specs.Walking.{IsEndingAt}
use Rattle.cfn_rebase.proofs.walk.Walk.end.Goals as goal

pub leave-requires : goal.leave-requires
leave-requires c = subst (λ e. IsEndingAt c.args.self.now.ground.network c.args.self.now.threshold c.args.old.now c.args.self.now c.args.id.number c.args.leaf.number c.args.block e) c.in-Free.is c.requires

pub close-requires : goal.close-requires
close-requires c = subst (λ e. IsEndingAt c.args.self.now.ground.network c.args.self.now.threshold c.args.old.now c.args.self.now c.args.id.number c.args.leaf.number c.args.block e) c.in-Shut.is c.requires

pub divide-requires : goal.divide-requires
divide-requires c = subst (λ e. IsEndingAt c.args.self.now.ground.network c.args.self.now.threshold c.args.old.now c.args.self.now c.args.id.number c.args.leaf.number c.args.block e) c.in-Split.is c.requires

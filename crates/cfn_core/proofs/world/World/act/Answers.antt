use Rattle.std.proofs.Common.{sym, subst}
use Rattle.cfn_core.specs.Actions.{Acts}
use Rattle.cfn_core.specs.Machine.{action_of, reply_of, world_of}
use Rattle.cfn_core.proofs.world.World.act.Goals as goal

pub returns-in-Back-clause-acts : goal.returns-in-Back-clause-acts
returns-in-Back-clause-acts c = subst (λ a. Acts c.args.self.now.network (world_of c.args.self.now) (action_of a) (reply_of c.back.result) (world_of c.back.new.self)) (sym c.in-Back.is) c.back.ensures.acts

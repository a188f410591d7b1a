use Rattle.std.proofs.lemmas.Result.{IfOk-weaker}
use Rattle.cfn_core.specs.Machine.{action_of, reply_of, world_of}
use Rattle.cfn_core.proofs.Refusing.{stays_out, is_kept}
use Rattle.cfn_core.proofs.world.World.step.Goals as goal

pub returns-clause-never_gone : goal.returns-clause-never_gone
returns-clause-never_gone c = IfOk-weaker c.act-reply.result _ _
    (λ reply acts out. is_kept c.args.self.now.network (world_of c.args.self.now) (world_of c.act-reply.new.self) (action_of c.args.action.now) (reply_of reply) acts out) c.act-reply.ensures.acts

pub returns-clause-stays_out : goal.returns-clause-stays_out
returns-clause-stays_out c = IfOk-weaker c.act-reply.result _ _
    (λ reply acts out never. stays_out c.args.self.now.network (world_of c.args.self.now) (world_of c.act-reply.new.self) (action_of c.args.action.now) (reply_of reply) acts out never) c.act-reply.ensures.acts

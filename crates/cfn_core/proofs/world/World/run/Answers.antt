use Rattle.std.proofs.Common.{◌≡◌, ◌+◌, ◌<◌, [], ◌∷◌, ◌++◌, length, map, take, sym, ap, ◌∙◌, subst, arith}
use Rattle.std.proofs.lemmas.List.{map_more, map-append, take_all}
use Rattle.cfn_core.specs.Actions.{Acts, Runs}
use Rattle.std.specs.List.{AllByRecursion}
use Rattle.cfn_core.specs.Machine.{IsReplyOf, action_of, reply_of, world_of}
use Rattle.cfn_core.proofs.Machines.{runs_more, each_more}
use Rattle.cfn_core.proofs.Refusing.{are_kept, run_out}
use Rattle.cfn_core.proofs.world.World.run.Goals as goal

pub loop-action-preserved : goal.loop-action-preserved
loop-action-preserved c =
    let P = c.args.self.now.network in
    let w = world_of c.args.self.now in
    let xs = c.args.actions.now in
    let i = c.loop-action.action-index in
    let a = c.action-item.result in
    let there : i < length xs = c.loop-action-test.true in
    let acts : Acts P (world_of c.loop-action.self) (action_of a) (reply_of c.in_ok-reply.reply) (world_of c.step.new.self) =
    subst (λ Q. Acts Q (world_of c.loop-action.self) (action_of a) (reply_of c.in_ok-reply.reply) (world_of c.step.new.self)) c.loop-action.invariant.network c.in_ok-reply.ensures.acts in
    let actions : map action_of (take (i + 1) xs) ≡ map action_of (take i xs) ++ action_of a ∷ [] =
    map_more action_of xs i a there ∙ ap (λ b. map action_of (take i xs) ++ action_of b ∷ []) (sym c.action-item.is) in
    let replies : map reply_of c.push_reserved.new.self.items ≡ map reply_of c.loop-action.replies.items ++ reply_of c.in_ok-reply.reply ∷ [] =
    ap (map reply_of) c.push_reserved.ensures.items ∙ map-append reply_of c.loop-action.replies.items (c.in_ok-reply.reply ∷ []) in
    record {
      network = c.in_ok-reply.ensures.network ∙ c.loop-action.invariant.network;
      runs = subst (λ l. Runs P w l (map reply_of c.push_reserved.new.self.items) (world_of c.step.new.self)) (sym actions)
          (subst (λ l. Runs P w (map action_of (take i xs) ++ action_of a ∷ []) l (world_of c.step.new.self)) (sym replies)
          (runs_more P (map action_of (take i xs)) (map reply_of c.loop-action.replies.items) w (world_of c.loop-action.self) (world_of c.step.new.self) (action_of a) (reply_of c.in_ok-reply.reply) c.loop-action.invariant.runs acts));
      of = subst (λ l. AllByRecursion (IsReplyOf P) l) (sym c.push_reserved.ensures.items) (each_more (IsReplyOf P) c.loop-action.replies.items c.in_ok-reply.reply c.loop-action.invariant.of
          (subst (λ Q. IsReplyOf Q c.in_ok-reply.reply) c.loop-action.invariant.network c.in_ok-reply.ensures.of));
      always = c.in_ok-reply.ensures.always;
      made = c.push_reserved.ensures.len ∙ ap (λ n. n + 1) c.loop-action.invariant.made;
      room = omega (arith, c.push_reserved.ensures.capacity, c.loop-action.invariant.room);
    }

pub returns-clause-never_gone : goal.returns-clause-never_gone
returns-clause-never_gone c =
    let P = c.args.self.now.network in
    let w = world_of c.args.self.now in
    let all : map action_of (take c.loop-action.action-index c.args.actions.now) ≡ map action_of c.args.actions.now = ap (map action_of) (take_all c.loop-action.action-index c.args.actions.now c.loop-action-test.false) in
    let runs = subst (λ l. Runs P w l (map reply_of c.loop-action.replies.items) (world_of c.loop-action.self)) all c.loop-action.invariant.runs in
    λ out never. are_kept P (map action_of c.args.actions.now) (map reply_of c.loop-action.replies.items) w (world_of c.loop-action.self) runs out never

pub returns-clause-stays_out : goal.returns-clause-stays_out
returns-clause-stays_out c =
    let P = c.args.self.now.network in
    let w = world_of c.args.self.now in
    let all : map action_of (take c.loop-action.action-index c.args.actions.now) ≡ map action_of c.args.actions.now = ap (map action_of) (take_all c.loop-action.action-index c.args.actions.now c.loop-action-test.false) in
    let runs = subst (λ l. Runs P w l (map reply_of c.loop-action.replies.items) (world_of c.loop-action.self)) all c.loop-action.invariant.runs in
    λ out never. run_out P (map action_of c.args.actions.now) (map reply_of c.loop-action.replies.items) w (world_of c.loop-action.self) runs out never

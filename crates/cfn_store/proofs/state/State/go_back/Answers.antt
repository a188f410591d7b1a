use Rattle.std.proofs.Common.{arith}
use Rattle.cfn_store.proofs.Going.{one_back}
use Rattle.cfn_store.proofs.state.State.go_back.Goals as goal

pub loop-self-preserved : goal.loop-self-preserved
loop-self-preserved c = one_back c.args.network.now c.args.events c.args.self.now c.loop-self.self c.leave.new.self c.leave.ensures.trail.0 c.loop-self.invariant (let t = c.loop-self-test.true in let l = c.len.ensures in omega (arith, t, l)) c.leave.ensures.state c.leave.ensures.room c.leave.ensures.trail.1

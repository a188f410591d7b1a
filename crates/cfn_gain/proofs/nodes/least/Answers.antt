use Rattle.std.proofs.Common.{◌<◌, length, arith}
use Rattle.cfn_gain.proofs.Reading.{next_least}
use Rattle.cfn_gain.proofs.nodes.least.Goals as goal

pub loop-a-preserved : goal.loop-a-preserved
loop-a-preserved c =
    let within : c.loop-a.a-index < length c.live-values.result.now = omega (arith, c.loop-a-test.true) in
    next_least c.args.store.now c.args.x c.live-values.result.now c.loop-a.a-index c.loop-a.least c.unary.result c.min-least.result c.live-values.ensures within c.loop-a.invariant (c.unary.ensures (c.live-values.ensures.live c.loop-a.a-index within).1) c.min-least.ensures

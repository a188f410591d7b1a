use Rattle.std.proofs.Common.{◌<◌, length, arith}
use Rattle.cfn_model.specs.Network.{dims}
use Rattle.cfn_net.proofs.CallerLemmas.{length-dims, get_or-dims}
use Rattle.cfn_tables.proofs.Counting.{slots-drop_more}
use Rattle.cfn_tables.proofs.shifts.slots.Goals as goal

pub loop-x-preserved : goal.loop-x-preserved
loop-x-preserved c =
    let sizes = c.args.network.now.sizes in
    let scope = c.args.scope.now in
    let l : c.loop-x.x-index < length scope = omega arith in
    let more = slots-drop_more (dims sizes scope) c.loop-x.x-index (omega (arith, length-dims sizes scope)) in
    let here = get_or-dims sizes scope c.loop-x.x-index l in
    let x = c.requires.scope c.loop-x.x-index l in
    record {
      rest = omega (arith, c.loop-x.invariant.rest, c.size.ensures, more, here);
      small = omega (arith, c.loop-x.invariant.small, c.size.ensures, (c.law_limits.ensures.sizes _ x).1);
    }

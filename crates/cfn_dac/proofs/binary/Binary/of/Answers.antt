use Rattle.std.proofs.Common.{◌<◌, length, sym, subst}
use Rattle.cfn_model.specs.Network.{IsNetwork}
use Rattle.cfn_store.specs.Standing.{history}
use Rattle.cfn_scan.specs.Unaries.{AreUnaries}
use Rattle.cfn_dac.proofs.binary.Binary.of.Goals as goal

pub unaries-requires : goal.unaries-requires
unaries-requires c =
    let s = c.args.store.now in let pair = c.args.pair in let is = c.requires in
    let side = c.in_ok-side.ensures.1 pair.other is.other is.different in
    subst (λ y. y < length s.network.sizes) (sym (c.other-second.ensures s.network (history s) pair.function pair.place pair.other side))
    (((subst IsNetwork c.network.ensures c.law_limits.ensures).functions pair.function is.function).variables pair.other is.other)

pub returns : goal.returns
returns c =
    let s = c.args.store.now in let pair = c.args.pair in let is = c.requires in
    let side = c.in_ok-side.ensures.1 pair.other is.other is.different in
    let second = c.other-second.ensures s.network (history s) pair.function pair.place pair.other side in
    record { side = side; second = second; theirs = subst (λ y. AreUnaries s.network (history s) y c.unaries.result) second c.unaries.ensures }

use Rattle.std.proofs.Common.{subst}
use Rattle.std.specs.Prelude.{slice_index}
use Rattle.cfn_model.specs.Network.{IsNetwork}
use Rattle.cfn_rows.specs.Sets.{AreLive}
use Rattle.cfn_store.specs.Rooms.{sets_of}
use Rattle.cfn_store.specs.Standing.{history}
use Rattle.cfn_dac.specs.Moves.{IsTotalBetween}
use Rattle.cfn_dac.proofs.Binaries.{met_listed}
use Rattle.cfn_dac.proofs.Planning.{least_zero, least_more, least_all}
use Rattle.cfn_dac.proofs.binary.Binary.least_along.Goals as goal

pub returns-then-total-eq0 : goal.returns-then-total-eq0
returns-then-total-eq0 c =
    let s = c.args.store.now in let pair = c.args.pair in let b = slice_index c.live-other-items.result.now c.loop-other.other-index in
    least_zero s.network (history s) c.args.pair c.args.value b (subst IsNetwork c.network.ensures c.law_limits.ensures) c.law_exact.ensures c.requires.pair
    (subst (λ n. IsTotalBetween s.network (history s) c.args.pair c.args.value b n) c.if-total-eq0.true (c.total_along-total.ensures s.network (history s) pair c.args.value (met_listed s pair c.args.self.now c.args.value c.args.line.now c.live-other-items.result.now c.loop-other.other-index (subst IsNetwork c.network.ensures c.law_limits.ensures) c.requires.pair c.requires.binary c.requires.line c.live-other-items.ensures c.loop-other-test.true)))

pub loop-other-preserved : goal.loop-other-preserved
loop-other-preserved c =
    let s = c.args.store.now in let pair = c.args.pair in let b = slice_index c.live-other-items.result.now c.loop-other.other-index in
    least_more s.network (history s) c.args.pair c.args.value c.live-other-items.result.now c.loop-other.other-index c.loop-other.least c.total_along-total.result c.min-least.result c.loop-other.invariant (c.total_along-total.ensures s.network (history s) pair c.args.value (met_listed s pair c.args.self.now c.args.value c.args.line.now c.live-other-items.result.now c.loop-other.other-index (subst IsNetwork c.network.ensures c.law_limits.ensures) c.requires.pair c.requires.binary c.requires.line c.live-other-items.ensures c.loop-other-test.true)) c.min-least.ensures

pub returns : goal.returns
returns c =
    let s = c.args.store.now in let pair = c.args.pair in
    least_all s pair c.args.value c.live-other-items.result.now c.loop-other.other-index c.loop-other.least (subst IsNetwork c.network.ensures c.law_limits.ensures) c.requires.pair
    (subst (λ y. AreLive (sets_of s) y c.live-other-items.result.now) c.requires.binary.second c.live-other-items.ensures) c.loop-other-test.false c.loop-other.invariant

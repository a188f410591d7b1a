use Rattle.std.proofs.Common.{length, arith}
use Rattle.cfn_store.specs.Standing.{history}
use Rattle.std.proofs.Common.{subst}
use Rattle.cfn_model.specs.Network.{IsNetwork}
use Rattle.cfn_edac.proofs.Amounts.{asks_start, asks_more, asks_grow}
use Rattle.cfn_edac.proofs.Owing.{low_start, low_more, low_all}
use Rattle.cfn_edac.proofs.asking.asked.Goals as goal

pub returns-then-sum-most-clause-above : goal.returns-then-sum-most-clause-above
returns-then-sum-most-clause-above c = λ more amount asks.
    (let s = c.args.store.now in
    let least = asks_grow s.network (history s) c.args.x c.args.pairs.now c.args.value c.loop-pair.pair-index (length c.args.pairs.now) c.loop-pair.sum amount (omega (arith, c.loop-pair-test.true)) c.loop-pair.invariant.asks asks in
    omega (arith, least, more))

pub loop-pair-preserved : goal.loop-pair-preserved
loop-pair-preserved c =
    let s = c.args.store.now in let n = c.loop-pair.pair-index in let v = c.loop-pair.invariant in let sum = c.saturating_add-sum.ensures in
    record {
      asks = asks_more s.network (history s) c.args.x c.args.pairs.now c.args.value n c.loop-pair.sum c.least_total.result c.saturating_add-sum.result v.asks
          (record { is = c.least_total.ensures; capped = (let fits = c.least_total.type_inv in omega (arith, fits)) }) (omega (arith, sum));
      low = low_more s.network (history s) c.args.x c.args.pairs.now c.args.value n c.loop-pair.sum c.least_total.result c.saturating_add-sum.result v.low c.least_total.ensures (omega (arith, sum));
    }

pub loop-pair-init : goal.loop-pair-init
loop-pair-init c =
    let s = c.args.store.now in let is = c.unary-sum.ensures c.requires.live in
    record {
      asks = asks_start s.network (history s) c.args.x c.args.pairs.now c.args.value c.unary-sum.result is (let fits = c.unary-sum.type_inv in omega (arith, fits));
      low = low_start s.network (history s) c.args.x c.args.pairs.now c.args.value c.unary-sum.result is;
    }

pub returns-then-sum-most-clause-low : goal.returns-then-sum-most-clause-low
returns-then-sum-most-clause-low c =
    let s = c.args.store.now in
    low_all s.network (history s) c.args.x c.args.pairs.now c.args.value c.loop-pair.pair-index c.loop-pair.sum (subst IsNetwork c.network.ensures c.law_limits.ensures) c.law_exact.ensures c.requires.neighbours (omega (arith, c.loop-pair-test.true)) c.loop-pair.invariant.low

pub returns-clause-low : goal.returns-clause-low
returns-clause-low c =
    let s = c.args.store.now in
    low_all s.network (history s) c.args.x c.args.pairs.now c.args.value c.loop-pair.pair-index c.loop-pair.sum (subst IsNetwork c.network.ensures c.law_limits.ensures) c.law_exact.ensures c.requires.neighbours (omega (arith, c.loop-pair.auto.pair-index-end)) c.loop-pair.invariant.low

pub returns-clause-above : goal.returns-clause-above
returns-clause-above c = λ more amount asks.
    (let s = c.args.store.now in
    let least = asks_grow s.network (history s) c.args.x c.args.pairs.now c.args.value c.loop-pair.pair-index (length c.args.pairs.now) c.loop-pair.sum amount (omega (arith, c.loop-pair.auto.pair-index-end)) c.loop-pair.invariant.asks asks in
    omega (arith, least, more))

use Rattle.std.proofs.Common.{subst, length, arith}
use Rattle.std.specs.Prelude.{slice_index}
use Rattle.cfn_store.specs.Standing.{history}
use Rattle.cfn_edac.specs.Asking.{Asks}
use Rattle.cfn_edac.proofs.Amounts.{good_of_asks}
use Rattle.cfn_edac.proofs.Owing.{list_more, list_all, asked_least}
use Rattle.cfn_edac.proofs.raising.ask.Goals as goal

pub returns-then-asked-eq0 : goal.returns-then-asked-eq0
returns-then-asked-eq0 c =
    let s = c.args.store.now in
    let a = slice_index c.live-value-items.result.now c.loop-value.value-index in
    let at = c.live-value-items.ensures.live c.loop-value.value-index (omega (arith, c.loop-value-test.true)) in (
      a,
      good_of_asks s.network (history s) c.args.x c.args.pairs.now a (record { variable = at.0.variable; value = at.0.value }) at.1
          (subst (Asks s.network (history s) c.args.x c.args.pairs.now a (length c.args.pairs.now)) c.if-asked-eq0.true (c.asked-asked.ensures.is (let none = c.if-asked-eq0.true in omega (arith, none)))),
    )

pub loop-value-preserved : goal.loop-value-preserved
loop-value-preserved c =
    let s = c.args.store.now in let v = c.loop-value.invariant in let m = c.min-least.ensures in let none = c.if-asked-eq0.false in
    let at = c.live-value-items.ensures.live c.loop-value.value-index (omega (arith, c.loop-value-test.true)) in
    record {
      some = (let some = v.some in omega (arith, m, some, none));
      come = list_more s.network (history s) c.args.x c.args.pairs.now c.live-value-items.result.now c.loop-value.value-index c.loop-value.least c.asked-asked.result c.min-least.result v.come c.asked-asked.ensures.low m;
      least = asked_least s c.args.x c.args.pairs.now (slice_index c.live-value-items.result.now c.loop-value.value-index) c.args.limits.threshold c.loop-value.least c.asked-asked.result c.min-least.result v.least (record { variable = at.0.variable; value = at.0.value }) at.1 c.asked-asked.ensures.is v.some m;
      below = (let below = v.below in omega (arith, m, below));
    }

pub returns : goal.returns
returns c =
    let s = c.args.store.now in let v = c.loop-value.invariant in
    record {
      some = v.some;
      below = v.below;
      least = v.least;
      come = list_all s c.args.x c.args.pairs.now c.live-value-items.result.now c.loop-value.value-index c.loop-value.least c.live-value-items.ensures c.loop-value-test.false v.come;
    }

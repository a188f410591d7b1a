use Rattle.std.proofs.Common.{subst, arith}
use Rattle.cfn_model.specs.Network.{IsNetwork}
use Rattle.cfn_store.specs.Standing.{history}
use Rattle.cfn_store.proofs.Doubting.{extreme_of, next_small, free_of, passed_doubt}
use Rattle.cfn_store.proofs.store.Store.lacking_along.Goals as goal

pub overflow_add-from : goal.overflow_add-from
overflow_add-from c =
    let s = c.args.self.now in
    let net = subst IsNetwork c.network.ensures c.law_limits.ensures in
    let small = next_small s.network c.args.f c.args.place c.in-Some.doubt.value net c.in-Some.ensures.place in
    omega (arith, small)

pub loop-doubt-preserved : goal.loop-doubt-preserved
loop-doubt-preserved c =
    let s = c.args.self.now in
    let doubt = c.in-Some.doubt in
    let is = c.in-Some.ensures in
    record {
      behind = let l = is.behind in let k = c.loop-doubt.invariant.behind in omega (arith, l, k);
      passed = passed_doubt s.network (history s) c.args.f c.args.place c.args.from c.loop-doubt.from doubt c.loop-doubt.invariant.passed is
          (free_of s.network (history s) c.args.f c.args.place doubt.value c.in-Some-least.extreme (extreme_of s.network (history s) c.args.f c.args.place c.loop-doubt.from doubt c.in-Some-least.extreme is c.in-Some-least.is) c.if-extreme-eq0.true);
    }

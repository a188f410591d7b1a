use Rattle.std.proofs.Common.{◌<◌, length, ap, ◌∙◌, arith}
use Rattle.cfn_model.specs.Network.{Network}
use Rattle.cfn_trim.proofs.Emptying.{lift_more, made_network}
use Rattle.cfn_model.specs.declared.step.Step.TheVariants.{Lift}
use Rattle.cfn_trim.proofs.shutting.lift_all.Goals as goal

pub loop-x-preserved : goal.loop-x-preserved
loop-x-preserved c =
    let there : c.loop-x.x < length c.loop-x.store.network.sizes = (let t = c.loop-x-test.true in let e = c.variables-x-end.ensures in let n = ap (λ (N : Network). length N.sizes) c.network-network.ensures in let m = ap (λ (N : Network). length N.sizes) c.loop-x.invariant.0 in omega (arith, t, e, n, m)) in (
      made_network c.loop-x.store c.lift_at.new.store c.lift_at.ensures.amount (Lift c.loop-x.x c.lift_at.ensures.amount) c.lift_at.ensures.made ∙ c.loop-x.invariant.0,
      λ values start. (let old = c.loop-x.invariant.1 values start in
          lift_more c.args.store.now c.loop-x.store c.lift_at.new.store values c.args.k c.loop-x.x 0 c.value_of-a.result there (let r = old.room in omega (arith, r, there)) (c.value_of-a.ensures.value values old.leaf) old c.lift_at.ensures),
    )

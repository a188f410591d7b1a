use Rattle.std.proofs.Common.{map, reverse, arith}
use Rattle.cfn_consistency.specs.Virtual.{scaled}
use Rattle.cfn_vac.proofs.Lifts.{made_adds, live_as_before, lifted_all, same_adds, tried_first, tells_once}
use Rattle.cfn_vac.proofs.lifter.make.Goals as goal

pub returns-in-Ok-clause-adds : goal.returns-in-Ok-clause-adds
returns-in-Ok-clause-adds c =
    let is = c.in-Ok.ensures in
    made_adds c.args.store.now c.run.new.store c.args.limits c.factor-factor.result c.args.steps.now is.made is.now c.requires.room (let f = c.if-saturating_sub-steps.false in let e = c.saturating_sub.ensures in let l = c.block_len.ensures in omega (arith, f, e, l))

pub returns-in-Ok-clause-tells : goal.returns-in-Ok-clause-tells
returns-in-Ok-clause-tells c = lifted_all _ c.args.store.now c.run.new.store c.factor-factor.result (reverse c.args.steps.now) (tried_first c.args.store.now c.args.q c.factor-factor.result c.args.steps.now c.factor-factor.ensures) c.factor-factor.ensures.some c.requires.rises c.in-Ok.ensures.now

pub returns-in-Err-2-clause-adds : goal.returns-in-Err-2-clause-adds
returns-in-Err-2-clause-adds c = same_adds c.args.store.now c.run.new.store c.args.limits c.in-Err-2.ensures.unchanged

pub returns-in-Ok-clause-live : goal.returns-in-Ok-clause-live
returns-in-Ok-clause-live c = λ y a. live_as_before c.args.store.now c.run.new.store (map (scaled c.factor-factor.result) (reverse c.args.steps.now)) y a c.in-Ok.ensures.made c.in-Ok.ensures.now

pub returns-in-Err-clause-tells : goal.returns-in-Err-clause-tells
returns-in-Err-clause-tells c =
    tells_once c.args.store.now c.run.new.store c.make_once.new.store c.args.limits c.args.q c.factor-factor.result c.args.steps.now c.in-Err.field-0 c.make_once.result c.factor-factor.ensures c.in-Err.ensures.refused c.in-Err.ensures.unchanged c.make_once.ensures.tells

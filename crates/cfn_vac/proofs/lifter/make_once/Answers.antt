use Rattle.std.proofs.Common.{◌≡◌, refl, map, reverse, arith}
use Rattle.cfn_consistency.specs.Virtual.{scaled}
use Rattle.cfn_vac.proofs.Lifts.{made_adds, live_as_before, lifted_all}
use Rattle.cfn_vac.proofs.lifter.make_once.Goals as goal

pub returns-in-Ok-clause-adds : goal.returns-in-Ok-clause-adds
returns-in-Ok-clause-adds c =
    let is = c.in-Ok.ensures in
    made_adds c.args.store.now c.run.new.store c.args.limits 1 c.args.steps.now is.made is.now c.requires.room c.requires.short

pub returns-in-Ok-clause-tells : goal.returns-in-Ok-clause-tells
returns-in-Ok-clause-tells c = lifted_all (λ factor. factor ≡ 1) c.args.store.now c.run.new.store 1 (reverse c.args.steps.now) refl (omega arith) c.requires.rises c.in-Ok.ensures.now

pub returns-in-Ok-clause-live : goal.returns-in-Ok-clause-live
returns-in-Ok-clause-live c = λ y a. live_as_before c.args.store.now c.run.new.store (map (scaled 1) (reverse c.args.steps.now)) y a c.in-Ok.ensures.made c.in-Ok.ensures.now

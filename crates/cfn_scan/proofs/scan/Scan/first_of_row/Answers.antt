use Rattle.std.proofs.Common.{[], subst, arith}
use Rattle.cfn_scan.proofs.Threes.{Leaves, carries_none, carries_more, carries_all, carries_enough}
use Rattle.cfn_scan.proofs.scan.Scan.first_of_row.Goals as goal

pub loop-value-init : goal.loop-value-init
loop-value-init c = carries_none c.args.self.now c.args.z [] c.args.spot c.args.thirds.now c.args.best c.requires.best c.requires.some

pub loop-value-preserved : goal.loop-value-preserved
loop-value-preserved c = carries_more c.args.self.now c.args.z [] c.args.spot c.args.thirds.now c.args.best c.loop-value.value-index c.loop-value.least c.better-least.result c.loop-value.invariant c.better-least.ensures.best (let d = c.if-least-eq0.false in omega (arith, d))
    (subst (λ s. Leaves c.args.self.now [] s c.loop-value.least c.better-least.result) c.gone_on.ensures c.better-least.ensures.sooner)

pub returns-clause-sooner : goal.returns-clause-sooner
returns-clause-sooner c = carries_all c.args.self.now c.args.z [] c.args.spot c.args.thirds.now c.args.best c.loop-value.value-index c.loop-value.least c.requires.thirds (let f = c.loop-value-test.false in omega (arith, f)) (let a = c.loop-value.auto.value-index-end in omega (arith, a)) c.loop-value.invariant

pub returns-then-least-eq0-clause-sooner : goal.returns-then-least-eq0-clause-sooner
returns-then-least-eq0-clause-sooner c = carries_enough c.args.self.now c.args.z [] c.args.spot c.args.thirds.now c.args.best c.loop-value.value-index c.loop-value.least c.better-least.result c.requires.thirds c.loop-value-test.true c.requires.some c.loop-value.invariant c.better-least.ensures.best c.if-least-eq0.true
    (subst (λ s. Leaves c.args.self.now [] s c.loop-value.least c.better-least.result) c.gone_on.ensures c.better-least.ensures.sooner)

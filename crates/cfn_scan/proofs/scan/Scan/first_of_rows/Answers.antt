use Rattle.std.proofs.Common.{[], ◌∷◌, slice_index, subst, sym, arith}
use Rattle.cfn_scan.specs.Scanning.{IsSpot, AreChoices}
use Rattle.cfn_scan.proofs.Scans.{spot_behind}
use Rattle.cfn_scan.proofs.Threes.{Leaves, carries_none, carries_more, carries_all, carries_enough}
use Rattle.cfn_scan.proofs.scan.Scan.first_of_rows.Goals as goal

pub loop-value-init : goal.loop-value-init
loop-value-init c = carries_none c.args.self.now c.args.y (c.args.z ∷ []) c.args.spot c.args.seconds.now c.args.best c.requires.best c.requires.some

pub loop-value-preserved : goal.loop-value-preserved
loop-value-preserved c = carries_more c.args.self.now c.args.y (c.args.z ∷ []) c.args.spot c.args.seconds.now c.args.best c.loop-value.value-index c.loop-value.least c.first_of_row-least.result c.loop-value.invariant c.first_of_row-least.ensures.best (let d = c.if-least-eq0.false in omega (arith, d))
    (subst (λ s. Leaves c.args.self.now (c.args.z ∷ []) s c.loop-value.least c.first_of_row-least.result) c.gone_on-behind.ensures c.first_of_row-least.ensures.sooner)

pub returns-clause-sooner : goal.returns-clause-sooner
returns-clause-sooner c = carries_all c.args.self.now c.args.y (c.args.z ∷ []) c.args.spot c.args.seconds.now c.args.best c.loop-value.value-index c.loop-value.least c.requires.seconds (let f = c.loop-value-test.false in omega (arith, f)) (let a = c.loop-value.auto.value-index-end in omega (arith, a)) c.loop-value.invariant

pub returns-then-least-eq0-clause-sooner : goal.returns-then-least-eq0-clause-sooner
returns-then-least-eq0-clause-sooner c = carries_enough c.args.self.now c.args.y (c.args.z ∷ []) c.args.spot c.args.seconds.now c.args.best c.loop-value.value-index c.loop-value.least c.first_of_row-least.result c.requires.seconds c.loop-value-test.true c.requires.some c.loop-value.invariant c.first_of_row-least.ensures.best c.if-least-eq0.true
    (subst (λ s. Leaves c.args.self.now (c.args.z ∷ []) s c.loop-value.least c.first_of_row-least.result) c.gone_on-behind.ensures c.first_of_row-least.ensures.sooner)

pub gone_on-behind-requires : goal.gone_on-behind-requires
gone_on-behind-requires c = record {
  scope = c.args.z ∷ [];
  spot_is = c.requires.spot;
  value_is = (c.requires.seconds.stand c.loop-value.value-index c.loop-value-test.true).0;
}

pub first_of_row-least-requires-clause-spot : goal.first_of_row-least-requires-clause-spot
first_of_row-least-requires-clause-spot c = subst (IsSpot c.args.self.now (c.args.z ∷ [])) (sym c.gone_on-behind.ensures)
    (spot_behind c.args.self.now c.args.y (c.args.z ∷ []) c.args.spot (slice_index c.args.seconds.now c.loop-value.value-index) c.requires.spot (c.requires.seconds.stand c.loop-value.value-index c.loop-value-test.true).0)

pub first_of_row-least-requires-clause-thirds : goal.first_of_row-least-requires-clause-thirds
first_of_row-least-requires-clause-thirds c = subst (λ s. AreChoices c.args.self.now s.place c.args.z c.args.thirds.now) (sym c.gone_on-behind.ensures) c.requires.thirds

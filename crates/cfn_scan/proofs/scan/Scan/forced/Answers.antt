use Rattle.std.proofs.Common.{◌+◌, drop, subst, sym, arith}
use Rattle.std.proofs.lemmas.List.{drop_more}
use Rattle.cfn_scan.specs.Scanning.{IsSpot}
use Rattle.cfn_scan.proofs.Scans.{Passed, passed_none, passed_more}
use Rattle.cfn_scan.proofs.scan.Scan.forced.Goals as goal

pub loop-passed-init : goal.loop-passed-init
loop-passed-init c = passed_none c.args.self.now c.args.scope.now c.args.spot c.requires

pub choices-choices-requires-clause-one : goal.choices-choices-requires-clause-one
choices-choices-requires-clause-one c = λ e.
    (let front = drop_more c.args.scope.now c.loop-passed.passed 0 c.loop-passed-test.true in
    let here = subst (λ s. IsSpot c.args.self.now s c.loop-passed.spot) front c.loop-passed.invariant.spot_is in
    here.one 0 (omega arith) (omega (arith, e)))

pub choices-choices-requires-clause-two : goal.choices-choices-requires-clause-two
choices-choices-requires-clause-two c = λ e.
    (let front = drop_more c.args.scope.now c.loop-passed.passed 0 c.loop-passed-test.true in
    let here = subst (λ s. IsSpot c.args.self.now s c.loop-passed.spot) front c.loop-passed.invariant.spot_is in
    here.two 0 (omega arith) (omega (arith, e)))

pub gone_on-spot-requires : goal.gone_on-spot-requires
gone_on-spot-requires c = record {
  scope = drop (c.loop-passed.passed + 1) c.args.scope.now;
  spot_is = subst (λ s. IsSpot c.args.self.now s c.loop-passed.spot) (drop_more c.args.scope.now c.loop-passed.passed 0 c.loop-passed-test.true) c.loop-passed.invariant.spot_is;
  value_is = (c.choices-choices.ensures.stand 0 (let e = c.if-choices-ne1.false in omega (arith, e))).0;
}

pub loop-passed-preserved : goal.loop-passed-preserved
loop-passed-preserved c = subst (Passed c.args.self.now c.args.scope.now c.args.spot (c.loop-passed.passed + 1)) (sym c.gone_on-spot.ensures)
    (passed_more c.args.self.now c.args.scope.now c.args.spot c.loop-passed.passed c.loop-passed.spot c.choices-choices.result.now c.loop-passed.invariant c.loop-passed-test.true c.choices-choices.ensures c.if-choices-ne1.false)

pub returns-after-loop-passed-clause-passed : goal.returns-after-loop-passed-clause-passed
returns-after-loop-passed-clause-passed c = c.loop-passed.invariant.within

pub returns-after-loop-passed-clause-spot : goal.returns-after-loop-passed-clause-spot
returns-after-loop-passed-clause-spot c = c.loop-passed.invariant.spot_is

pub returns-after-loop-passed-clause-none : goal.returns-after-loop-passed-clause-none
returns-after-loop-passed-clause-none c = c.loop-passed.invariant.none

pub returns-after-loop-passed-clause-found : goal.returns-after-loop-passed-clause-found
returns-after-loop-passed-clause-found c = c.loop-passed.invariant.found

pub returns-then-choices-ne1-clause-spot : goal.returns-then-choices-ne1-clause-spot
returns-then-choices-ne1-clause-spot c = c.loop-passed.invariant.spot_is

pub returns-then-choices-ne1-clause-none : goal.returns-then-choices-ne1-clause-none
returns-then-choices-ne1-clause-none c = c.loop-passed.invariant.none

pub returns-then-choices-ne1-clause-found : goal.returns-then-choices-ne1-clause-found
returns-then-choices-ne1-clause-found c = c.loop-passed.invariant.found

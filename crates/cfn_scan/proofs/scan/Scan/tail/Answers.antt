use Rattle.std.proofs.Common.{◌+◌, ◌*◌, slice_index, drop, subst, sym, arith}
use Rattle.std.proofs.lemmas.List.{drop_more}
use Rattle.cfn_scan.specs.Scanning.{IsSpot}
use Rattle.cfn_scan.proofs.Scans.{Tails, tail_begin, tail_start, tail_none, tail_more, few_tuples}
use Rattle.cfn_scan.proofs.scan.Scan.tail.Goals as goal

pub loop-x-init : goal.loop-x-init
loop-x-init c = tail_none c.args.self.now c.from-rest.result.now _ _ (subst (λ s. IsSpot c.args.self.now s (tail_begin c.args.self.now (slice_index c.args.scope.now 0) c.args.spot)) (sym c.from-rest.ensures) (tail_start c.args.self.now c.args.scope.now c.args.spot c.requires.some c.requires.spot))

pub overflow_mul-tuples : goal.overflow_mul-tuples
overflow_mul-tuples c =
    let start = subst (λ s. IsSpot c.args.self.now s (tail_begin c.args.self.now (slice_index c.args.scope.now 0) c.args.spot)) (sym c.from-rest.ensures) (tail_start c.args.self.now c.args.scope.now c.args.spot c.requires.some c.requires.spot) in
    let few = few_tuples c.args.self.now c.from-rest.result.now (tail_begin c.args.self.now (slice_index c.args.scope.now 0) c.args.spot) c.loop-x.x-index c.loop-x.tuples c.loop-x.end start c.loop-x.invariant c.loop-x-test.true in omega (arith, few)

pub loop-x-preserved : goal.loop-x-preserved
loop-x-preserved c =
    let begin = tail_begin c.args.self.now (slice_index c.args.scope.now 0) c.args.spot in
    let x = slice_index c.from-rest.result.now c.loop-x.x-index in
    subst (Tails c.args.self.now c.from-rest.result.now begin (c.loop-x.x-index + 1) (c.loop-x.tuples * slice_index c.args.self.now.sizes.now x)) (sym c.gone_on-end.ensures)
    (tail_more c.args.self.now c.from-rest.result.now begin c.loop-x.x-index c.loop-x.tuples c.loop-x.end c.choices-values.result.now c.loop-x.invariant c.loop-x-test.true c.choices-values.ensures c.if-values-ne1.false)

pub choices-values-requires-clause-one : goal.choices-values-requires-clause-one
choices-values-requires-clause-one c = λ e.
    (let front = drop_more c.from-rest.result.now c.loop-x.x-index 0 c.loop-x-test.true in
    let here = subst (λ s. IsSpot c.args.self.now s c.loop-x.end) front c.loop-x.invariant.spot_is in
    here.one 0 (omega arith) (omega (arith, e)))

pub choices-values-requires-clause-two : goal.choices-values-requires-clause-two
choices-values-requires-clause-two c = λ e.
    (let front = drop_more c.from-rest.result.now c.loop-x.x-index 0 c.loop-x-test.true in
    let here = subst (λ s. IsSpot c.args.self.now s c.loop-x.end) front c.loop-x.invariant.spot_is in
    here.two 0 (omega arith) (omega (arith, e)))

pub gone_on-end-requires : goal.gone_on-end-requires
gone_on-end-requires c = record {
  scope = drop (c.loop-x.x-index + 1) c.from-rest.result.now;
  spot_is = subst (λ s. IsSpot c.args.self.now s c.loop-x.end) (drop_more c.from-rest.result.now c.loop-x.x-index 0 c.loop-x-test.true) c.loop-x.invariant.spot_is;
  value_is = (c.choices-values.ensures.stand 0 (let e = c.if-values-ne1.false in omega (arith, e))).0;
}

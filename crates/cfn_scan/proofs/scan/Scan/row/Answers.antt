use Rattle.std.proofs.Common.{◌+◌, [], slice_index, drop, MatchOption, subst, sym, ap, ◌∙◌, arith}
use Rattle.std.proofs.lemmas.List.{drop_more}
use Rattle.cfn_scan.specs.Scanning.{IsSpot, NoneMet, IsFound, ended, found_in}
use Rattle.cfn_scan.proofs.Scans.{FirstOf, first_of_none, next_choice, all_choices, row_spot, row_match, at_once}
use Rattle.cfn_scan.proofs.scan.Scan.row.Goals as goal

pub loop-value-init : goal.loop-value-init
loop-value-init c = (
  c.none-best.ensures.best,
  subst (FirstOf c.args.self.now (slice_index c.args.scope.now 0) (drop 1 c.args.scope.now) c.args.spot c.choices-value-items.result.now 0) (sym (c.none-best.ensures.none c.args.self.now.sense)) (first_of_none c.args.self.now (slice_index c.args.scope.now 0) (drop 1 c.args.scope.now) c.args.spot c.choices-value-items.result.now),
)

pub gone_on-requires : goal.gone_on-requires
gone_on-requires c = record {
  scope = drop 1 c.args.scope.now;
  spot_is = subst (λ s. IsSpot c.args.self.now s c.args.spot) (drop_more c.args.scope.now 0 0 c.requires.some) c.requires.spot;
  value_is = (c.choices-value-items.ensures.stand c.loop-value.value-index c.loop-value-test.true).0;
}

pub ended-end-requires : goal.ended-end-requires
ended-end-requires c = subst (λ s. IsSpot c.args.self.now [] (ended s c.args.tail)) (sym c.gone_on.ensures)
    (row_spot c.args.self.now c.args.scope.now c.args.spot c.args.tail (slice_index c.choices-value-items.result.now c.loop-value.value-index) c.requires.some c.requires.spot c.requires.tail (c.choices-value-items.ensures.stand c.loop-value.value-index c.loop-value-test.true).0)

pub better-best-requires-clause-spot : goal.better-best-requires-clause-spot
better-best-requires-clause-spot c = subst (IsSpot c.args.self.now []) (sym (c.ended-end.ensures ∙ ap (λ s. ended s c.args.tail) c.gone_on.ensures))
    (row_spot c.args.self.now c.args.scope.now c.args.spot c.args.tail (slice_index c.choices-value-items.result.now c.loop-value.value-index) c.requires.some c.requires.spot c.requires.tail (c.choices-value-items.ensures.stand c.loop-value.value-index c.loop-value-test.true).0)

pub loop-value-preserved : goal.loop-value-preserved
loop-value-preserved c = (
  c.better-best.ensures.best,
  next_choice c.args.self.now (slice_index c.args.scope.now 0) (drop 1 c.args.scope.now) c.args.spot c.choices-value-items.result.now c.loop-value.value-index (found_in c.args.self.now.sense c.loop-value.best) c.better-best.ensures.sooner.0 (found_in c.args.self.now.sense c.better-best.result) c.loop-value.invariant.1
      (row_match c.args.self.now c.args.scope.now c.args.spot c.args.tail (slice_index c.choices-value-items.result.now c.loop-value.value-index) c.better-best.ensures.sooner.0 c.requires.some c.requires.spot c.requires.tail (c.choices-value-items.ensures.stand c.loop-value.value-index c.loop-value-test.true).0
      (subst (λ s. MatchOption c.better-best.ensures.sooner.0 (NoneMet c.args.self.now [] s) (IsFound c.args.self.now [] s)) (c.ended-end.ensures ∙ ap (λ s. ended s c.args.tail) c.gone_on.ensures) c.better-best.ensures.sooner.1))
      c.better-best.ensures.sooner.2,
)

pub returns : goal.returns
returns c =
    subst (λ found. MatchOption found (NoneMet c.args.self.now c.args.scope.now c.args.spot) (IsFound c.args.self.now c.args.scope.now c.args.spot)) (sym c.found_in-2.ensures)
    (subst (λ s. MatchOption (found_in c.args.self.now.sense c.loop-value.best) (NoneMet c.args.self.now s c.args.spot) (IsFound c.args.self.now s c.args.spot)) (sym (drop_more c.args.scope.now 0 0 c.requires.some))
    (all_choices c.args.self.now (slice_index c.args.scope.now 0) (drop 1 c.args.scope.now) c.args.spot c.choices-value-items.result.now c.loop-value.value-index (found_in c.args.self.now.sense c.loop-value.best) c.choices-value-items.ensures (let f = c.loop-value-test.false in omega (arith, f)) (let a = c.loop-value.auto.value-index-end in omega (arith, a)) c.loop-value.invariant.1))

pub returns-then-best-eq0 : goal.returns-then-best-eq0
returns-then-best-eq0 c =
    let more = next_choice c.args.self.now (slice_index c.args.scope.now 0) (drop 1 c.args.scope.now) c.args.spot c.choices-value-items.result.now c.loop-value.value-index (found_in c.args.self.now.sense c.loop-value.best) c.better-best.ensures.sooner.0 (found_in c.args.self.now.sense c.better-best.result) c.loop-value.invariant.1
    (row_match c.args.self.now c.args.scope.now c.args.spot c.args.tail (slice_index c.choices-value-items.result.now c.loop-value.value-index) c.better-best.ensures.sooner.0 c.requires.some c.requires.spot c.requires.tail (c.choices-value-items.ensures.stand c.loop-value.value-index c.loop-value-test.true).0
    (subst (λ s. MatchOption c.better-best.ensures.sooner.0 (NoneMet c.args.self.now [] s) (IsFound c.args.self.now [] s)) (c.ended-end.ensures ∙ ap (λ s. ended s c.args.tail) c.gone_on.ensures) c.better-best.ensures.sooner.1))
    c.better-best.ensures.sooner.2 in
    subst (λ found. MatchOption found (NoneMet c.args.self.now c.args.scope.now c.args.spot) (IsFound c.args.self.now c.args.scope.now c.args.spot)) (sym c.found_in.ensures)
    (subst (λ s. MatchOption (found_in c.args.self.now.sense c.better-best.result) (NoneMet c.args.self.now s c.args.spot) (IsFound c.args.self.now s c.args.spot)) (sym (drop_more c.args.scope.now 0 0 c.requires.some))
    (at_once c.args.self.now (slice_index c.args.scope.now 0) (drop 1 c.args.scope.now) c.args.spot c.choices-value-items.result.now (c.loop-value.value-index + 1) c.better-best.result.key c.better-best.result.cell c.choices-value-items.ensures (let t = c.loop-value-test.true in omega (arith, t)) more c.if-best-eq0.true c.better-best.ensures.best))

use Rattle.std.proofs.Common.{◌≡◌, ◌+◌, ◌<◌, ◌∷◌, length, slice_index, drop, MatchOption, subst, sym, ap, ◌∙◌, arith}
use Rattle.std.proofs.lemmas.List.{drop_more, length-drop}
use Rattle.cfn_scan.specs.Scanning.{IsSpot, NoneMet, IsFound}
use Rattle.cfn_scan.proofs.Scans.{first_of_none, next_choice, all_choices, at_once_found, match_through, spot_behind}
use Rattle.cfn_scan.proofs.scan.Scan.+first.Goals as goal

pub loop-value-init : goal.loop-value-init
loop-value-init t c = first_of_none c.args.self.now (slice_index c.from-behind.result.now 0) c.from-rest.result.now c.forced-passed.result.1 c.choices-value-items.result.now

pub first-found-requires : goal.first-found-requires
first-found-requires t c =
    let some : 0 < length c.from-behind.result.now = (let f = c.if-is_empty.false in let e = c.is_empty.ensures in grind (arith, f, e)) in
    let front : c.from-behind.result.now ≡ slice_index c.from-behind.result.now 0 ∷ c.from-rest.result.now = drop_more c.from-behind.result.now 0 0 some ∙ ap (λ l. slice_index c.from-behind.result.now 0 ∷ l) (sym c.from-rest.ensures) in
    let here = subst (λ s. IsSpot c.args.self.now s c.forced-passed.result.1) (sym c.from-behind.ensures ∙ front) c.forced-passed.ensures.spot in
    let shorter = length-drop c.forced-passed.result.0 c.args.scope.now in (
      let l = ap length front in let b = ap length c.from-behind.ensures in let d = c.decreases in omega (arith, l, b, shorter, d),
      subst (IsSpot c.args.self.now c.from-rest.result.now) (sym c.gone_on.ensures) (spot_behind c.args.self.now (slice_index c.from-behind.result.now 0) c.from-rest.result.now c.forced-passed.result.1 (slice_index c.choices-value-items.result.now c.loop-value.value-index) here (c.choices-value-items.ensures.stand c.loop-value.value-index c.loop-value-test.true).0),
    )

pub loop-value-preserved : goal.loop-value-preserved
loop-value-preserved t c = next_choice c.args.self.now (slice_index c.from-behind.result.now 0) c.from-rest.result.now c.forced-passed.result.1 c.choices-value-items.result.now c.loop-value.value-index c.loop-value.first c.first-found.result c.sooner-first.result c.loop-value.invariant
    (subst (λ spot. MatchOption c.first-found.result (NoneMet c.args.self.now c.from-rest.result.now spot) (IsFound c.args.self.now c.from-rest.result.now spot)) c.gone_on.ensures c.first-found.ensures)
    c.sooner-first.ensures

pub returns : goal.returns
returns t c =
    let some : 0 < length c.from-behind.result.now = (let f = c.if-is_empty.false in let e = c.is_empty.ensures in grind (arith, f, e)) in
    let front : c.from-behind.result.now ≡ slice_index c.from-behind.result.now 0 ∷ c.from-rest.result.now = drop_more c.from-behind.result.now 0 0 some ∙ ap (λ l. slice_index c.from-behind.result.now 0 ∷ l) (sym c.from-rest.ensures) in
    let there = sym front ∙ c.from-behind.ensures in
    let all = all_choices c.args.self.now (slice_index c.from-behind.result.now 0) c.from-rest.result.now c.forced-passed.result.1 c.choices-value-items.result.now c.loop-value.value-index c.loop-value.first c.choices-value-items.ensures (let f = c.loop-value-test.false in omega (arith, f)) (let a = c.loop-value.auto.value-index-end in omega (arith, a)) c.loop-value.invariant in
    match_through c.args.self.now c.args.scope.now (drop c.forced-passed.result.0 c.args.scope.now) c.args.spot c.forced-passed.result.1 c.loop-value.first c.forced-passed.ensures.none c.forced-passed.ensures.found
    (subst (λ s. MatchOption c.loop-value.first (NoneMet c.args.self.now s c.forced-passed.result.1) (IsFound c.args.self.now s c.forced-passed.result.1)) there all)

pub returns-then-is_foremost : goal.returns-then-is_foremost
returns-then-is_foremost t c =
    let some : 0 < length c.from-behind.result.now = (let f = c.if-is_empty.false in let e = c.is_empty.ensures in grind (arith, f, e)) in
    let front : c.from-behind.result.now ≡ slice_index c.from-behind.result.now 0 ∷ c.from-rest.result.now = drop_more c.from-behind.result.now 0 0 some ∙ ap (λ l. slice_index c.from-behind.result.now 0 ∷ l) (sym c.from-rest.ensures) in
    let there = sym front ∙ c.from-behind.ensures in
    let more = next_choice c.args.self.now (slice_index c.from-behind.result.now 0) c.from-rest.result.now c.forced-passed.result.1 c.choices-value-items.result.now c.loop-value.value-index c.loop-value.first c.first-found.result c.sooner-first.result c.loop-value.invariant
    (subst (λ spot. MatchOption c.first-found.result (NoneMet c.args.self.now c.from-rest.result.now spot) (IsFound c.args.self.now c.from-rest.result.now spot)) c.gone_on.ensures c.first-found.ensures)
    c.sooner-first.ensures in
    let all = at_once_found c.args.self.now (slice_index c.from-behind.result.now 0) c.from-rest.result.now c.forced-passed.result.1 c.choices-value-items.result.now (c.loop-value.value-index + 1) c.sooner-first.result c.choices-value-items.ensures (let l = c.loop-value-test.true in omega (arith, l)) more (c.is_foremost.ensures c.if-is_foremost.true) in
    match_through c.args.self.now c.args.scope.now (drop c.forced-passed.result.0 c.args.scope.now) c.args.spot c.forced-passed.result.1 c.sooner-first.result c.forced-passed.ensures.none c.forced-passed.ensures.found
    (subst (λ s. MatchOption c.sooner-first.result (NoneMet c.args.self.now s c.forced-passed.result.1) (IsFound c.args.self.now s c.forced-passed.result.1)) there all)

use Rattle.std.proofs.Common.{◌≡◌, ℕ, ◌+◌, List, [], ◌∷◌, length, slice_index, subst, sym, MatchOption, Option, arith}
use Rattle.cfn_scan.specs.declared.scan.Extreme.{Extreme}
use Rattle.cfn_scan.specs.declared.scan.Scan.{Scan}
use Rattle.cfn_scan.specs.Reading.{start}
use Rattle.cfn_scan.specs.Scanning.{IsSpot, NoneMet, IsFound, found_in}
use Rattle.cfn_scan.proofs.Scans.{FirstOf, first_of_none, next_choice, all_choices, at_once, spot_behind}
use Rattle.cfn_scan.proofs.Threes.{three_of}
use Rattle.cfn_scan.proofs.scan.Scan.first_of_three.Goals as goal

abbrev behind_first : List ℕ → List ℕ
behind_first scope = slice_index scope 1 ∷ slice_index scope 2 ∷ []

whole : (scan : Scan) (scope : List ℕ) (first : Option Extreme) → length scope ≡ 3 → MatchOption first (NoneMet scan (slice_index scope 0 ∷ behind_first scope) start) (IsFound scan (slice_index scope 0 ∷ behind_first scope) start) → MatchOption first (NoneMet scan scope start) (IsFound scan scope start)
whole scan scope first three is = subst (λ s. MatchOption first (NoneMet scan s start) (IsFound scan s start)) (sym (three_of scope three)) is

pub loop-value-init : goal.loop-value-init
loop-value-init c = record {
  is_best = c.none-best.ensures.best;
  some = c.none-best.ensures.some;
  first = subst (FirstOf c.args.self.now (slice_index c.args.scope.now 0) (behind_first c.args.scope.now) start c.choices-value-items.result.now 0) (sym (c.none-best.ensures.none c.args.self.now.sense))
      (first_of_none c.args.self.now (slice_index c.args.scope.now 0) (behind_first c.args.scope.now) start c.choices-value-items.result.now);
}

pub first_of_rows-best-requires-clause-spot : goal.first_of_rows-best-requires-clause-spot
first_of_rows-best-requires-clause-spot c = subst (IsSpot c.args.self.now (behind_first c.args.scope.now)) (sym c.gone_on-behind.ensures)
    (spot_behind c.args.self.now (slice_index c.args.scope.now 0) (behind_first c.args.scope.now) start (slice_index c.choices-value-items.result.now c.loop-value.value-index) (subst (λ s. IsSpot c.args.self.now s start) (three_of c.args.scope.now c.requires.three) c.requires.spot) (c.choices-value-items.ensures.stand c.loop-value.value-index c.loop-value-test.true).0)

pub loop-value-preserved : goal.loop-value-preserved
loop-value-preserved c = record {
  is_best = c.first_of_rows-best.ensures.best;
  some = let d = c.if-best-eq0.false in omega (arith, d);
  first = next_choice c.args.self.now (slice_index c.args.scope.now 0) (behind_first c.args.scope.now) start c.choices-value-items.result.now c.loop-value.value-index (found_in c.args.self.now.sense c.loop-value.best) c.first_of_rows-best.ensures.sooner.0 (found_in c.args.self.now.sense c.first_of_rows-best.result) c.loop-value.invariant.first
      (subst (λ s. MatchOption c.first_of_rows-best.ensures.sooner.0 (NoneMet c.args.self.now (behind_first c.args.scope.now) s) (IsFound c.args.self.now (behind_first c.args.scope.now) s)) c.gone_on-behind.ensures c.first_of_rows-best.ensures.sooner.1)
      c.first_of_rows-best.ensures.sooner.2;
}

pub returns : goal.returns
returns c = whole c.args.self.now c.args.scope.now c.found_in-2.result c.requires.three
    (subst (λ o. MatchOption o (NoneMet c.args.self.now (slice_index c.args.scope.now 0 ∷ behind_first c.args.scope.now) start) (IsFound c.args.self.now (slice_index c.args.scope.now 0 ∷ behind_first c.args.scope.now) start)) (sym c.found_in-2.ensures)
    (all_choices c.args.self.now (slice_index c.args.scope.now 0) (behind_first c.args.scope.now) start c.choices-value-items.result.now c.loop-value.value-index (found_in c.args.self.now.sense c.loop-value.best) c.choices-value-items.ensures (let f = c.loop-value-test.false in omega (arith, f)) (let a = c.loop-value.auto.value-index-end in omega (arith, a)) c.loop-value.invariant.first))

pub returns-then-best-eq0 : goal.returns-then-best-eq0
returns-then-best-eq0 c =
    let more = next_choice c.args.self.now (slice_index c.args.scope.now 0) (behind_first c.args.scope.now) start c.choices-value-items.result.now c.loop-value.value-index (found_in c.args.self.now.sense c.loop-value.best) c.first_of_rows-best.ensures.sooner.0 (found_in c.args.self.now.sense c.first_of_rows-best.result) c.loop-value.invariant.first
    (subst (λ s. MatchOption c.first_of_rows-best.ensures.sooner.0 (NoneMet c.args.self.now (behind_first c.args.scope.now) s) (IsFound c.args.self.now (behind_first c.args.scope.now) s)) c.gone_on-behind.ensures c.first_of_rows-best.ensures.sooner.1)
    c.first_of_rows-best.ensures.sooner.2 in
    whole c.args.self.now c.args.scope.now c.found_in.result c.requires.three
    (subst (λ o. MatchOption o (NoneMet c.args.self.now (slice_index c.args.scope.now 0 ∷ behind_first c.args.scope.now) start) (IsFound c.args.self.now (slice_index c.args.scope.now 0 ∷ behind_first c.args.scope.now) start)) (sym c.found_in.ensures)
    (at_once c.args.self.now (slice_index c.args.scope.now 0) (behind_first c.args.scope.now) start c.choices-value-items.result.now (c.loop-value.value-index + 1) c.first_of_rows-best.result.key c.first_of_rows-best.result.cell c.choices-value-items.ensures (let l = c.loop-value-test.true in omega (arith, l)) more c.if-best-eq0.true c.first_of_rows-best.ensures.best))

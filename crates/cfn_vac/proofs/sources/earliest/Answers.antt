use Rattle.std.proofs.Common.{◌≡◌, ◌+◌, ◌<◌, ◌≤◌, length, sym, subst, ap, ◌∙◌, arith}
use Rattle.std.specs.Prelude.{slice_index}
use Rattle.cfn_model.specs.Network.{variable_at}
use Rattle.cfn_model.specs.Steps.{IsPlace}
use Rattle.cfn_rows.specs.Jagged.{row_at}
use Rattle.cfn_gain.proofs.CallerLemmas.{few_places}
use Rattle.cfn_vac.specs.Tables.{item}
use Rattle.cfn_vac.proofs.Numbers.{within}
use Rattle.cfn_vac.proofs.Gathering.{IsEarliest, value_of, item_is, earliest_found, earliest_kept, earliest_end}
use Rattle.cfn_vac.proofs.sources.earliest.Goals.{then-place-target+then-position-first, else-place-target, else-place-target-via-then-place-target+else-position-first, else-place-target-via-else-place-target}
use Rattle.cfn_vac.proofs.sources.earliest.Goals as goal

pub overflow_cast-place-end : goal.overflow_cast-place-end
overflow_cast-place-end c =
    let few = few_places c.args.network.now c.args.target.function c.law_limits.ensures c.requires.function in
    let same = ap length c.scope-scope.ensures in
    omega (arith, few, same)

pub loop-place-preserved : goal.loop-place-preserved
loop-place-preserved c = λ tuple fits cell.
    let P = c.args.network.now in let rows = c.args.positions.now in let f = c.args.target.function in let i = c.args.target.place in
    let n = c.loop-place.place in let value = c.value_at-value.result in
    let place : IsPlace P f n value = record {
      function = c.requires.function;
      place = (let t = c.loop-place-test.true in let e = ap length c.scope-scope.ensures in omega (arith, t, e));
      value = c.value_at-value.ensures.below;
    } in
    let at = c.value_at-value.ensures.value tuple fits cell in
    let x = ap (λ l. slice_index l n) c.scope-scope.ensures in
    let inside = within P rows (variable_at P f n) value c.requires.shape (value_of P f n value c.law_limits.ensures place) in
    let is : item rows (variable_at P f n) value ≡ c.get-position.result = ap (λ v. item rows v value) (sym x) ∙ item_is (row_at rows (slice_index c.scope-scope.result.now n)) value c.get-position.result (subst (λ v. value < length (row_at rows v)) (sym x) inside.1) c.get-position.ensures in
    elim c.if-place-target.branch [
      | then-place-target+then-position-first w ↦
          subst (λ m. IsEarliest P rows f i c.args.end (n + 1) m tuple c.if-place-target.found) (sym w.first-is)
          (earliest_found P rows f i c.args.end n c.loop-place.first value c.get-position.result tuple c.loop-place.found c.if-place-target.found (c.loop-place.invariant tuple fits cell) place w.if-place-target.true at is w.if-position-first.true w.found-is)
      | else-place-target w ↦
          subst (λ m. IsEarliest P rows f i c.args.end (n + 1) m tuple c.if-place-target.found) (sym w.first-is)
          (subst (IsEarliest P rows f i c.args.end (n + 1) c.loop-place.first tuple) (sym w.found-is)
          (earliest_kept P rows f i c.args.end n c.loop-place.first tuple c.loop-place.found (c.loop-place.invariant tuple fits cell)
          (λ d. elim w.else-place-target.branch [
            | else-place-target-via-then-place-target+else-position-first u ↦
                subst (λ b. c.loop-place.first ≤ item rows (variable_at P f n) b) at (let least = u.if-position-first.false in omega (arith, least, is))
            | else-place-target-via-else-place-target u ↦ absurd (d u.if-place-target.false)
          ])))
    ]

pub returns : goal.returns
returns c = λ tuple fits cell.
    let t = c.args.target in
    earliest_end c.args.network.now c.args.positions.now t.function t.place c.args.end c.loop-place.place c.loop-place.first tuple c.loop-place.found (c.loop-place.invariant tuple fits cell)
    (let t = c.loop-place-test.false in let e = ap length c.scope-scope.ensures in omega (arith, t, e))

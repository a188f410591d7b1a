use Rattle.std.proofs.Common.{ℕ, List, get_or, refl, sym, ap, ◌∙◌, arith}
use Rattle.std.proofs.lemmas.Bool.{false≢true}
use Rattle.cfn_check.proofs.Probing.{none_more, none_left, row_more, row_low, size_at, bound_same}
use Rattle.cfn_check.proofs.probe.row_lacks.Goals as goal
use Rattle.cfn_check.proofs.probe.row_lacks.Goals.{else-is_low-via-then-is_low+else-is_live, else-is_low-via-else-is_low}

pub returns-then-is_live : goal.returns-then-is_live
returns-then-is_live c =
    let P = c.args.network.now in
    let f = c.args.asked.function in
    let at = ap (λ (xs : List ℕ). get_or xs c.args.spot.place 0) c.scope.ensures in
    let size = size_at P f c.scope.result.now c.args.spot.place c.size-value-end.result c.scope.ensures (omega (arith, c.requires.last)) c.size-value-end.ensures in
    let bound = bound_same P f c.behind-next.result c.law_limits.ensures c.requires.asked.function c.behind-next.ensures.spot in
    let low = rw bound at c.is_low.ensures in
    let more = row_more P c.args.ledger.now.history c.args.asked c.args.spot c.behind-next.result (get_or c.scope.result.now c.args.spot.place 0) c.loop-value.value c.behind-next.ensures.behind at c.requires.last (omega (arith, size, c.loop-value-test.true)) (λ e. absurd (c.requires.open e)) (sym c.is_live.ensures ∙ c.if-is_live.true) (low.0 c.if-is_low.true) in
    (λ yes. more, λ lack. refl)

pub loop-value-preserved : goal.loop-value-preserved
loop-value-preserved c =
    let P = c.args.network.now in
    let h = c.args.ledger.now.history in
    let asked = c.args.asked in
    let bound = bound_same P asked.function c.behind-next.result c.law_limits.ensures c.requires.asked.function c.behind-next.ensures.spot in
    let low = rw bound at c.is_low.ensures in
    none_more P h asked c.args.spot (get_or c.scope.result.now c.args.spot.place 0) c.loop-value.value (λ live lack. elim c.else-is_low.branch [
      | else-is_low-via-then-is_low+else-is_live w ↦ false≢true (sym w.if-is_live.false ∙ w.is_live.ensures ∙ live)
      | else-is_low-via-else-is_low w ↦ false≢true (sym w.if-is_low.false ∙ low.1 (row_low P h asked c.args.spot c.behind-next.result c.loop-value.value c.behind-next.ensures.behind c.requires.last lack))
    ]) c.loop-value.invariant

pub returns : goal.returns
returns c =
    let P = c.args.network.now in
    let f = c.args.asked.function in
    let at = ap (λ (xs : List ℕ). get_or xs c.args.spot.place 0) c.scope.ensures in
    let size = size_at P f c.scope.result.now c.args.spot.place c.size-value-end.result c.scope.ensures (omega (arith, c.requires.last)) c.size-value-end.ensures in (
      λ no. absurd (false≢true no),
      λ lack. absurd (none_left P c.args.ledger.now.history c.args.asked c.args.spot (get_or c.scope.result.now c.args.spot.place 0) c.loop-value.value at (omega (arith, c.requires.last)) (omega (arith, size, c.loop-value-test.false)) c.loop-value.invariant lack),
    )

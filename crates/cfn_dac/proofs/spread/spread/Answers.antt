use Rattle.std.proofs.Common.{sym, ap, ◌∙◌, subst, arith}
use Rattle.std.specs.Prelude.{slice_index}
use Rattle.cfn_model.specs.Network.{variable_at}
use Rattle.cfn_store.specs.Standing.{history}
use Rattle.cfn_gain.proofs.CallerLemmas.{halts_after, passing_start}
use Rattle.cfn_dac.specs.Full.{IsPair, second_of}
use Rattle.std.proofs.Common.{◌+◌}
use Rattle.cfn_dac.proofs.Grouped.{fills_none, fills_then, fills_later, held_filled}
use Rattle.cfn_dac.proofs.Spreading.{spreading_more, all_lent}
use Rattle.cfn_dac.proofs.spread.spread.Goals as goal

pub returns-in_err-fill-clause-does : goal.returns-in_err-fill-clause-does
returns-in_err-fill-clause-does c =
    halts_after c.args.store.now c.loop-value.store c.fill.new.store c.args.limits _ c.in_err-fill.field-0.0 c.from_residual.result c.loop-value.invariant.spreading.passing c.in_err-fill.ensures.does c.from_residual.ensures.1

pub loop-value-preserved : goal.loop-value-preserved
loop-value-preserved c =
    let fill = c.in_ok-fill.ensures in let s = c.args.store.now in let now = c.loop-value.store in let v = c.loop-value.invariant.spreading in let b = c.loop-value.value in
    record {
      spreading = spreading_more s now c.fill.new.store c.args.limits c.args.pair c.args.moves.now b v fill.does fill.covers fill.within;
      fills = fills_then s now c.fill.new.store c.args.limits.threshold c.args.pair c.args.moves.now 0 b (b + 1) v.passing.adds.network c.loop-value.invariant.fills fill.fills;
    }

pub loop-value-init : goal.loop-value-init
loop-value-init c = record {
  spreading = record { passing = passing_start c.args.store.now c.args.limits (Unit {0}) c.requires.goes tt; covers = c.requires.covers; within = c.requires.within };
  fills = fills_none c.args.store.now c.args.limits.threshold c.args.pair c.args.moves.now 0;
}

pub fill-requires-clause-held : goal.fill-requires-clause-held
fill-requires-clause-held c =
    held_filled c.args.store.now c.loop-value.store c.args.limits.threshold c.args.pair c.args.moves.now 0 c.loop-value.value c.loop-value.invariant.spreading.passing.adds.network c.loop-value.invariant.fills c.requires.held

pub returns-in_err-fill-clause-fills : goal.returns-in_err-fill-clause-fills
returns-in_err-fill-clause-fills c =
    let s = c.args.store.now in let now = c.loop-value.store in let b = c.loop-value.value in let pair = c.args.pair in
    let y = ap (λ l. slice_index l pair.other) c.scope.ensures ∙ ap (λ P. variable_at P pair.function pair.other) c.network-2.ensures in
    let size = c.size-value-end.ensures ∙ ap (λ P. slice_index P.sizes (slice_index c.scope.result.now pair.other)) c.network-3.ensures ∙ ap (slice_index s.network.sizes) y in
    fills_later s c.fill.new.store c.args.limits.threshold pair c.args.moves.now 0 (b + 1) _ (omega (arith, c.loop-value-test.true, size))
    (fills_then s now c.fill.new.store c.args.limits.threshold pair c.args.moves.now 0 b (b + 1) c.loop-value.invariant.spreading.passing.adds.network c.loop-value.invariant.fills c.in_err-fill.ensures.fills)

pub returns-clause-fills : goal.returns-clause-fills
returns-clause-fills c =
    let s = c.args.store.now in let now = c.loop-value.store in let b = c.loop-value.value in let pair = c.args.pair in
    let y = ap (λ l. slice_index l pair.other) c.scope.ensures ∙ ap (λ P. variable_at P pair.function pair.other) c.network-2.ensures in
    let size = c.size-value-end.ensures ∙ ap (λ P. slice_index P.sizes (slice_index c.scope.result.now pair.other)) c.network-3.ensures ∙ ap (slice_index s.network.sizes) y in
    fills_later s now c.args.limits.threshold pair c.args.moves.now 0 b _ (omega (arith, c.loop-value.auto.value-end, size)) c.loop-value.invariant.fills

pub returns-clause-lent : goal.returns-clause-lent
returns-clause-lent c =
    let s = c.args.store.now in let now = c.loop-value.store in let pair = c.args.pair in
    let same = c.loop-value.invariant.spreading.passing.adds.network in
    let y = ap (λ l. slice_index l pair.other) c.scope.ensures ∙ ap (λ P. variable_at P pair.function pair.other) c.network-2.ensures in
    let size = c.size-value-end.ensures ∙ ap (λ P. slice_index P.sizes (slice_index c.scope.result.now pair.other)) c.network-3.ensures ∙ ap (slice_index s.network.sizes) y ∙ ap (λ P. slice_index P.sizes (second_of P pair)) (sym same) in
    all_lent now.network (history now) pair c.args.moves.now c.loop-value.value (subst (λ P. IsPair P pair) (sym same) c.requires.pair) (omega (arith, c.loop-value-test.false, size)) c.loop-value.invariant.spreading.covers

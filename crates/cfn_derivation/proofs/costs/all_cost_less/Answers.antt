use Rattle.std.proofs.Common.{◌-◌, ap, ◌∙◌, sym, subst, inl, inr, arith}
use Rattle.std.proofs.lemmas.Bool.{cases_eq}
use Rattle.std.specs.Prelude.{slice_index}
use Rattle.cfn_model.specs.Network.{IsNetwork, variable_at}
use Rattle.cfn_consistency.specs.Virtual.{HasCheapTuple}
use Rattle.cfn_rows.specs.Sets.{AreLive}
use Rattle.cfn_scan.specs.Lines.{IsLine}
use Rattle.cfn_store.specs.Rooms.{sets_of}
use Rattle.cfn_store.specs.Standing.{history}
use Rattle.cfn_scan.proofs.CallerLemmas.{side_line}
use Rattle.cfn_derivation.proofs.Costing.{seen_side, listed_place, all_listed}
use Rattle.cfn_derivation.proofs.costs.all_cost_less.Goals as goal

pub line-line-requires : goal.line-line-requires
line-line-requires c =
    let s = c.args.store.now in let f = c.args.f in let i = c.args.place in let values = c.live-value-items.result.now in
    let x = ap (λ l. slice_index l i) c.scope.ensures ∙ ap (λ P. variable_at P f i) c.network-2.ensures in
    let are = subst (λ y. AreLive (sets_of s) y values) x c.live-value-items.ensures in
    let at = listed_place s f i values c.loop-value.value-index c.requires.function c.requires.place are c.loop-value-test.true in
    (s.network, history s, f, i, 1 - i, seen_side s f i c.in-Some.side c.requires.place c.in-Some.ensures, at.0)

pub costs_along-requires-clause-two : goal.costs_along-requires-clause-two
costs_along-requires-clause-two c = c.in-Some.ensures.0

pub costs_along-requires-clause-other : goal.costs_along-requires-clause-other
costs_along-requires-clause-other c =
    let s = c.args.store.now in let f = c.args.f in let i = c.args.place in
    c.other-y.ensures s.network (history s) f i (1 - i) (seen_side s f i c.in-Some.side c.requires.place c.in-Some.ensures)

pub costs_along-requires-clause-place : goal.costs_along-requires-clause-place
costs_along-requires-clause-place c =
    let s = c.args.store.now in let f = c.args.f in let i = c.args.place in let values = c.live-value-items.result.now in
    let x = ap (λ l. slice_index l i) c.scope.ensures ∙ ap (λ P. variable_at P f i) c.network-2.ensures in
    (listed_place s f i values c.loop-value.value-index c.requires.function c.requires.place (subst (λ y. AreLive (sets_of s) y values) x c.live-value-items.ensures) c.loop-value-test.true).0

pub costs_along-requires-clause-line : goal.costs_along-requires-clause-line
costs_along-requires-clause-line c =
    let s = c.args.store.now in let f = c.args.f in let i = c.args.place in let values = c.live-value-items.result.now in
    let x = ap (λ l. slice_index l i) c.scope.ensures ∙ ap (λ P. variable_at P f i) c.network-2.ensures in
    let at = listed_place s f i values c.loop-value.value-index c.requires.function c.requires.place (subst (λ y. AreLive (sets_of s) y values) x c.live-value-items.ensures) c.loop-value-test.true in
    subst (IsLine s.network (history s) f i (slice_index values c.loop-value.value-index) (1 - i)) (sym c.line-line.ensures)
    (side_line s.network (history s) f i (1 - i) c.in-Some.side (seen_side s f i c.in-Some.side c.requires.place c.in-Some.ensures) (slice_index values c.loop-value.value-index) at.0 at.1)

pub loop-value-preserved : goal.loop-value-preserved
loop-value-preserved c = λ k l. elim (cases_eq k c.loop-value.value-index) [
  | inl e ↦ (
      let s = c.args.store.now in
      subst (λ n. HasCheapTuple s.network (history s) c.args.f c.args.place (slice_index c.live-value-items.result.now n) c.args.q) (sym e) (c.costs_along.ensures.no c.if-costs_along.false))
  | inr d ↦ c.loop-value.invariant k (omega (arith, l, d))
]

pub returns : goal.returns
returns c = λ yes.
    (let s = c.args.store.now in let f = c.args.f in let i = c.args.place in let values = c.live-value-items.result.now in
    let x = ap (λ l. slice_index l i) c.scope.ensures ∙ ap (λ P. variable_at P f i) c.network-2.ensures in
    all_listed s f i c.args.q values c.loop-value.value-index (subst IsNetwork c.network.ensures c.law_limits.ensures) c.requires.place (subst (λ y. AreLive (sets_of s) y values) x c.live-value-items.ensures) c.loop-value-test.false c.loop-value.invariant)

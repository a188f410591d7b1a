use Rattle.std.proofs.Common.{◌+◌, ap, ◌∙◌, subst, sym, Option}
use Rattle.std.specs.Prelude.{slice_index, MatchOption}
use Rattle.cfn_scan.specs.Extremes.{NonePicked, IsExtreme}
use Rattle.cfn_scan.specs.declared.scan.Extreme.{Extreme}
use Rattle.cfn_scan.specs.declared.scan.Sense.TheVariants.{Least}
use Rattle.cfn_model.specs.Network.{IsNetwork, variable_at}
use Rattle.cfn_rows.specs.Sets.{AreLive}
use Rattle.cfn_store.specs.Rooms.{sets_of}
use Rattle.cfn_store.specs.Standing.{history}
use Rattle.cfn_scan.specs.Nearest.{tuple_of}
use Rattle.cfn_store.proofs.Least.{found_more, found_all, nothing_found, stands_along}
use Rattle.cfn_store.proofs.store.Store.least_along.Goals as goal

pub loop-value-preserved : goal.loop-value-preserved
loop-value-preserved c =
    let s = c.args.self.now in
    let y = ap (λ l. slice_index l c.args.other) c.scope.ensures ∙ ap (λ P. variable_at P c.args.f c.args.other) c.network-2.ensures in
    let are = subst (λ x. AreLive (sets_of s) x c.live-value-items.result.now) y c.live-value-items.ensures in
    let along = stands_along s c.args.f c.args.place c.args.value c.args.other c.args.line.now c.live-value-items.result.now c.loop-value.value-index c.requires.line c.requires.other are c.loop-value-test.true in
    found_more s.network (history s) c.args.f c.args.place c.args.value c.args.other c.live-value-items.result.now c.loop-value.value-index (tuple_of c.loop-value.nearest) c.least.result (tuple_of c.or-nearest.result) c.loop-value.invariant (c.least.ensures s.network (history s) c.args.f c.args.place c.args.value c.args.other along) c.or-nearest.ensures

pub returns : goal.returns
returns c =
    let s = c.args.self.now in
    let y = ap (λ l. slice_index l c.args.other) c.scope.ensures ∙ ap (λ P. variable_at P c.args.f c.args.other) c.network-2.ensures in
    let net = subst IsNetwork c.network.ensures c.law_limits.ensures in
    subst (λ (t : Option Extreme). MatchOption t (NonePicked s.network (history s) c.args.f c.args.place c.args.value) (IsExtreme s.network (history s) c.args.f c.args.place c.args.value Least)) (sym c.tuple-2.ensures)
    (found_all s c.args.f c.args.place c.args.value c.args.other c.live-value-items.result.now c.loop-value.value-index (tuple_of c.loop-value.nearest) c.requires.other
    (subst (λ x. AreLive (sets_of s) x c.live-value-items.result.now) y c.live-value-items.ensures)
    ((net.functions c.args.f c.requires.line.is_way.place.function).variables c.args.other c.requires.other) c.loop-value-test.false c.loop-value.invariant)

pub returns-then-costs_nothing : goal.returns-then-costs_nothing
returns-then-costs_nothing c =
    let s = c.args.self.now in
    let y = ap (λ l. slice_index l c.args.other) c.scope.ensures ∙ ap (λ P. variable_at P c.args.f c.args.other) c.network-2.ensures in
    let are = subst (λ x. AreLive (sets_of s) x c.live-value-items.result.now) y c.live-value-items.ensures in
    let along = stands_along s c.args.f c.args.place c.args.value c.args.other c.args.line.now c.live-value-items.result.now c.loop-value.value-index c.requires.line c.requires.other are c.loop-value-test.true in
    subst (λ (t : Option Extreme). MatchOption t (NonePicked s.network (history s) c.args.f c.args.place c.args.value) (IsExtreme s.network (history s) c.args.f c.args.place c.args.value Least)) (sym c.tuple.ensures)
    (nothing_found s.network (history s) c.args.f c.args.place c.args.value c.args.other c.live-value-items.result.now (c.loop-value.value-index + 1) (tuple_of c.or-nearest.result) c.requires.line.is_way.exact c.requires.line.is_way.place.function (c.costs_nothing.ensures c.if-costs_nothing.true)
    (found_more s.network (history s) c.args.f c.args.place c.args.value c.args.other c.live-value-items.result.now c.loop-value.value-index (tuple_of c.loop-value.nearest) c.least.result (tuple_of c.or-nearest.result) c.loop-value.invariant (c.least.ensures s.network (history s) c.args.f c.args.place c.args.value c.args.other along) c.or-nearest.ensures))

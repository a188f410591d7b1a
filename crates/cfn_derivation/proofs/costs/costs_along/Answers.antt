use Rattle.std.proofs.Common.{◌-◌, ◌<◌, subst, arith}
use Rattle.std.specs.Prelude.{slice_index}
use Rattle.cfn_model.specs.Network.{IsNetwork, arity}
use Rattle.cfn_rows.specs.Sets.{AreLive}
use Rattle.cfn_store.specs.Rooms.{sets_of}
use Rattle.cfn_store.specs.Standing.{history}
use Rattle.cfn_derivation.proofs.Costing.{at_value, cheaper_is, cost_none, cost_more, cost_all}
use Rattle.cfn_derivation.proofs.costs.costs_along.Goals as goal

pub loop-other-init : goal.loop-other-init
loop-other-init c = cost_none c.args.store.now.network (history c.args.store.now) c.args.f c.args.place c.args.value (1 - c.args.place) c.args.q c.live-other-items.result.now

pub least-requires : goal.least-requires
least-requires c =
    let s = c.args.store.now in let f = c.args.f in let j = 1 - c.args.place in
    let values = c.live-other-items.result.now in let b = slice_index values c.loop-other.other-index in
    let y = c.requires.other in
    let at = (subst (λ x. AreLive (sets_of s) x values) y c.live-other-items.ensures).live c.loop-other.other-index c.loop-other-test.true in
    let place : j < arity s.network f = (let two = c.requires.two in omega (arith, two)) in
    let along = at_value s.network (history s) f c.args.place c.args.value j b c.args.line.now c.requires.line c.requires.place.function place at.0.value at.1 in
    (s.network, history s, f, c.args.place, c.args.value, j, along)

pub loop-other-preserved : goal.loop-other-preserved
loop-other-preserved c =
    let s = c.args.store.now in let f = c.args.f in let j = 1 - c.args.place in
    let values = c.live-other-items.result.now in let b = slice_index values c.loop-other.other-index in
    let y = c.requires.other in
    let at = (subst (λ x. AreLive (sets_of s) x values) y c.live-other-items.ensures).live c.loop-other.other-index c.loop-other-test.true in
    let place : j < arity s.network f = (let two = c.requires.two in omega (arith, two)) in
    let along = at_value s.network (history s) f c.args.place c.args.value j b c.args.line.now c.requires.line c.requires.place.function place at.0.value at.1 in
    cost_more s.network (history s) f c.args.place c.args.value j c.args.q values c.loop-other.other-index c.least.result c.loop-other.invariant
    (c.least.ensures s.network (history s) f c.args.place c.args.value j along) (c.is_cheaper.ensures.no c.if-is_cheaper.false)

pub returns-then-is_cheaper-clause-no : goal.returns-then-is_cheaper-clause-no
returns-then-is_cheaper-clause-no c = λ no.
    (let s = c.args.store.now in let f = c.args.f in let j = 1 - c.args.place in
    let values = c.live-other-items.result.now in let b = slice_index values c.loop-other.other-index in
    let y = c.requires.other in
    let at = (subst (λ x. AreLive (sets_of s) x values) y c.live-other-items.ensures).live c.loop-other.other-index c.loop-other-test.true in
    let place : j < arity s.network f = (let two = c.requires.two in omega (arith, two)) in
    let along = at_value s.network (history s) f c.args.place c.args.value j b c.args.line.now c.requires.line c.requires.place.function place at.0.value at.1 in
    cheaper_is s.network (history s) f c.args.place c.args.value j b c.args.q c.least.result
    (c.least.ensures s.network (history s) f c.args.place c.args.value j along) (c.is_cheaper.ensures.yes c.if-is_cheaper.true))

pub returns-clause-yes : goal.returns-clause-yes
returns-clause-yes c = λ yes.
    (let s = c.args.store.now in let f = c.args.f in let j = 1 - c.args.place in
    let y = c.requires.other in
    let net = subst IsNetwork c.network.ensures c.law_limits.ensures in
    let place : j < arity s.network f = (let two = c.requires.two in omega (arith, two)) in
    cost_all s f c.args.place c.args.value j c.args.q c.loop-other.other-index c.live-other-items.result.now place ((net.functions f c.requires.place.function).variables j place)
    (subst (λ x. AreLive (sets_of s) x c.live-other-items.result.now) y c.live-other-items.ensures) c.loop-other-test.false c.loop-other.invariant)

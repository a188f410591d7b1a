use Rattle.std.proofs.Common.{◌<◌, length, refl, ap, ◌∙◌, subst, arith}
use Rattle.std.proofs.lemmas.List.{length-set}
use Rattle.std.specs.Prelude.{slice_index}
use Rattle.cfn_model.specs.Network.{IsNetwork}
use Rattle.cfn_store.specs.Standing.{history}
use Rattle.cfn_dac.proofs.Planning.{planned_more, plan_covers, plan_none, plan_held, plan_reached}
use Rattle.cfn_dac.proofs.plan.plan.Goals.{then-amount-gt0, else-amount-gt0}
use Rattle.cfn_dac.proofs.plan.plan.Goals as goal

pub loop-value-preserved : goal.loop-value-preserved
loop-value-preserved c =
    let s = c.args.store.now in let pair = c.args.pair in
    let size = c.size-value-end.ensures ∙ ap (λ P. slice_index P.sizes c.of-view.result.first) c.network-2.ensures ∙ ap (slice_index s.network.sizes) c.of-view.ensures.first in
    let room = c.requires.room in let same = c.loop-value.invariant.same in
    let within : c.loop-value.value < length c.loop-value.moves = omega (arith, c.loop-value-test.true, size, room, same) in
    record {
      same = length-set c.loop-value.moves c.loop-value.value c.amount-amount.result ∙ same;
      planned = planned_more s.network (history s) pair c.args.alpha c.loop-value.moves _ c.loop-value.value c.amount-amount.result c.loop-value.some c.if-amount-gt0.some c.loop-value.invariant.planned c.amount-amount.ensures within refl
          (λ h. elim c.if-amount-gt0.branch [
            | then-amount-gt0 w ↦ w.some-is
            | else-amount-gt0 w ↦ absurd (let f = w.if-amount-gt0.false in omega (arith, f, h))
          ])
          (λ h. elim c.if-amount-gt0.branch [
            | then-amount-gt0 w ↦ absurd (let t = w.if-amount-gt0.true in omega (arith, t, h))
            | else-amount-gt0 w ↦ w.some-is
          ]);
    }

pub returns-clause-covers : goal.returns-clause-covers
returns-clause-covers c =
    let s = c.args.store.now in let pair = c.args.pair in
    let size = c.size-value-end.ensures ∙ ap (λ P. slice_index P.sizes c.of-view.result.first) c.network-2.ensures ∙ ap (slice_index s.network.sizes) c.of-view.ensures.first in
    plan_covers s.network (history s) pair c.args.alpha c.loop-value.moves c.loop-value.value c.loop-value.some c.requires.pair (omega (arith, c.loop-value-test.false, size)) c.loop-value.invariant.planned

pub returns-clause-none : goal.returns-clause-none
returns-clause-none c =
    let s = c.args.store.now in let pair = c.args.pair in
    let size = c.size-value-end.ensures ∙ ap (λ P. slice_index P.sizes c.of-view.result.first) c.network-2.ensures ∙ ap (slice_index s.network.sizes) c.of-view.ensures.first in
    plan_none s.network (history s) pair c.args.alpha c.loop-value.moves c.loop-value.value c.loop-value.some (subst IsNetwork c.network.ensures c.law_limits.ensures) (omega (arith, c.loop-value-test.false, size)) c.loop-value.invariant.planned

pub returns-clause-held : goal.returns-clause-held
returns-clause-held c =
    let s = c.args.store.now in let pair = c.args.pair in
    let size = c.size-value-end.ensures ∙ ap (λ P. slice_index P.sizes c.of-view.result.first) c.network-2.ensures ∙ ap (slice_index s.network.sizes) c.of-view.ensures.first in
    plan_held s.network (history s) pair c.loop-value.moves (plan_covers s.network (history s) pair c.args.alpha c.loop-value.moves c.loop-value.value c.loop-value.some c.requires.pair (omega (arith, c.loop-value-test.false, size)) c.loop-value.invariant.planned)

pub returns-clause-reached : goal.returns-clause-reached
returns-clause-reached c =
    let s = c.args.store.now in let pair = c.args.pair in
    let size = c.size-value-end.ensures ∙ ap (λ P. slice_index P.sizes c.of-view.result.first) c.network-2.ensures ∙ ap (slice_index s.network.sizes) c.of-view.ensures.first in
    plan_reached s.network (history s) pair c.args.alpha c.loop-value.moves c.loop-value.value c.loop-value.some (subst IsNetwork c.network.ensures c.law_limits.ensures) (omega (arith, c.loop-value-test.false, size)) c.loop-value.invariant.planned

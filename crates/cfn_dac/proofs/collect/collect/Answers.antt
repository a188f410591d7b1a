use Rattle.std.proofs.Common.{inr}
use Rattle.std.specs.Prelude.{IsTrue}
use Rattle.cfn_model.specs.Sums.{is_live}
use Rattle.cfn_store.specs.Standing.{history}
use Rattle.cfn_dac.specs.Full.{first_of}
use Rattle.cfn_dac.specs.Going.{Gathers}
use Rattle.cfn_dac.proofs.Grouped.{gathers_none, gathers_skip, gathers_more, stalls_at, on_err}
use Rattle.std.specs.Prelude.{slice_index}
use Rattle.cfn_model.specs.Network.{IsNetwork, variable_at}
use Rattle.cfn_model.specs.Steps.{IsPlace}
use Rattle.cfn_dac.proofs.Places.{place_of, variables_apart}
use Rattle.std.proofs.Common.{◌+◌, sym, ap, ◌∙◌, subst, arith}
use Rattle.cfn_gain.proofs.CallerLemmas.{halts_after, passing_start}
use Rattle.cfn_dac.proofs.Collecting.{IsCollecting, collecting_skip, collecting_more, fits_project}
use Rattle.cfn_dac.proofs.collect.collect.Goals.{then-amount-gt0+in_ok-project, else-amount-gt0}
use Rattle.cfn_dac.proofs.collect.collect.Goals as goal

pub returns-in_err-project-clause-does : goal.returns-in_err-project-clause-does
returns-in_err-project-clause-does c =
    halts_after c.args.store.now c.loop-value.store c.project.new.store c.args.limits _ c.in_err-project.field-0.0 c.from_residual.result c.loop-value.invariant.collecting.passing c.in_err-project.ensures.does c.from_residual.ensures.1

pub loop-value-preserved : goal.loop-value-preserved
loop-value-preserved c =
    let s = c.args.store.now in let now = c.loop-value.store in let n = c.loop-value.value in let pair = c.args.pair in let moves = c.args.moves.now in let k = c.args.limits.threshold in
    let v = c.loop-value.invariant.collecting in let same = v.passing.adds.network in let net = subst IsNetwork c.network.ensures c.law_limits.ensures in
    let x = ap (λ l. slice_index l pair.place) c.scope.ensures ∙ ap (λ P. variable_at P pair.function pair.place) c.network-2.ensures in
    let size = c.size-value-end.ensures ∙ ap (λ P. slice_index P.sizes (slice_index c.scope.result.now pair.place)) c.network-3.ensures ∙ ap (slice_index s.network.sizes) x in
    let place = place_of s.network pair.function pair.place n c.requires.pair.function c.requires.pair.place (omega (arith, c.loop-value-test.true, size)) in
    elim c.if-amount-gt0.branch [
      | then-amount-gt0+in_ok-project w ↦
          (let does = w.in_ok-project.ensures.does in
          record {
            collecting = subst (λ t. IsCollecting s t c.args.limits pair moves (n + 1)) (sym w.store-is)
                (collecting_more s now w.project.new.store c.args.limits pair moves n _ v does w.in_ok-project.ensures.made);
            gathers = subst (λ t. Gathers s t k pair moves (n + 1)) (sym w.store-is)
                (gathers_more s now w.project.new.store k pair moves n same (does.adds.network ∙ same) (variables_apart s.network pair net c.requires.pair) place w.if-amount-gt0.true
                (subst (λ P. IsTrue (is_live (history now) (first_of P pair) n)) same (v.within n (subst (λ P. IsPlace P pair.function pair.place n) (sym same) place) (omega arith) w.if-amount-gt0.true).live)
                w.in_ok-project.ensures.made c.loop-value.invariant.gathers);
          })
      | else-amount-gt0 w ↦
          record {
            collecting = subst (λ t. IsCollecting s t c.args.limits pair moves (n + 1)) (sym w.store-is)
                (collecting_skip s now c.args.limits pair moves n v (let f = w.if-amount-gt0.false in omega (arith, f)));
            gathers = subst (λ t. Gathers s t k pair moves (n + 1)) (sym w.store-is) (gathers_skip s now k pair moves n (let f = w.if-amount-gt0.false in omega (arith, f)) c.loop-value.invariant.gathers);
          }
    ]

pub loop-value-init : goal.loop-value-init
loop-value-init c = record {
  collecting = record { passing = passing_start c.args.store.now c.args.limits (Unit {0}) c.requires.goes tt; lent = c.requires.lent; within = c.requires.within; some = inr c.requires.some };
  gathers = gathers_none c.args.store.now c.args.limits.threshold c.args.pair c.args.moves.now;
}

pub returns-clause-gathers : goal.returns-clause-gathers
returns-clause-gathers c =
    let s = c.args.store.now in let now = c.loop-value.store in let n = c.loop-value.value in let pair = c.args.pair in
    let x = ap (λ l. slice_index l pair.place) c.scope.ensures ∙ ap (λ P. variable_at P pair.function pair.place) c.network-2.ensures in
    let size = c.size-value-end.ensures ∙ ap (λ P. slice_index P.sizes (slice_index c.scope.result.now pair.place)) c.network-3.ensures ∙ ap (slice_index s.network.sizes) x in
    subst (Gathers s now c.args.limits.threshold pair c.args.moves.now) (omega (arith, c.loop-value-test.false, c.loop-value.auto.value-end, size)) c.loop-value.invariant.gathers

pub returns-in_err-project-clause-stalls : goal.returns-in_err-project-clause-stalls
returns-in_err-project-clause-stalls c =
    let s = c.args.store.now in let now = c.loop-value.store in let n = c.loop-value.value in let pair = c.args.pair in
    let v = c.loop-value.invariant.collecting in
    let x = ap (λ l. slice_index l pair.place) c.scope.ensures ∙ ap (λ P. variable_at P pair.function pair.place) c.network-2.ensures in
    let size = c.size-value-end.ensures ∙ ap (λ P. slice_index P.sizes (slice_index c.scope.result.now pair.place)) c.network-3.ensures ∙ ap (slice_index s.network.sizes) x in
    let place = place_of s.network pair.function pair.place n c.requires.pair.function c.requires.pair.place (omega (arith, c.loop-value-test.true, size)) in
    on_err c.from_residual.result c.in_err-project.field-0.0 c.from_residual.ensures.1
    (stalls_at s now c.project.new.store c.args.limits.threshold c.args.limits.threshold pair c.args.moves.now n v.passing.adds.network c.in_err-project.ensures.stopped c.requires.held place c.if-amount-gt0.true v.within c.loop-value.invariant.gathers)

pub project-requires-clause-fits : goal.project-requires-clause-fits
project-requires-clause-fits c =
    let s = c.args.store.now in let now = c.loop-value.store in let pair = c.args.pair in let v = c.loop-value.invariant.collecting in
    let same = v.passing.adds.network in
    let x = ap (λ l. slice_index l pair.place) c.scope.ensures ∙ ap (λ P. variable_at P pair.function pair.place) c.network-2.ensures in
    let size = c.size-value-end.ensures ∙ ap (λ P. slice_index P.sizes (slice_index c.scope.result.now pair.place)) c.network-3.ensures ∙ ap (slice_index s.network.sizes) x in
    let place = place_of s.network pair.function pair.place c.loop-value.value c.requires.pair.function c.requires.pair.place (omega (arith, c.loop-value-test.true, size)) in
    fits_project now c.args.limits pair c.args.moves.now c.loop-value.value (subst IsNetwork (sym same) (subst IsNetwork c.network.ensures c.law_limits.ensures)) v.passing.goes (subst (λ P. IsPlace P pair.function pair.place c.loop-value.value) (sym same) place) v.lent v.within c.if-amount-gt0.true

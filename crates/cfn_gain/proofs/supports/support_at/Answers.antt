use Rattle.std.proofs.Common.{sym, subst}
use Rattle.cfn_store.specs.Doubts.{AreFreeFrom, IsLacking}
use Rattle.cfn_store.specs.Standing.{Standing, history}
use Rattle.cfn_gain.specs.Calls.{Passing}
use Rattle.cfn_gain.proofs.Adding.{halts_after}
use Rattle.cfn_gain.proofs.Gaining.{GainedFor, for_more, for_halts}
use Rattle.cfn_gain.proofs.Supporting.{AreSupportedTo, supported_all, supported_more, supported_passed}
use Rattle.cfn_gain.proofs.supports.support_at.Goals as goal

pub returns-in_err-gain_support-clause-does : goal.returns-in_err-gain_support-clause-does
returns-in_err-gain_support-clause-does c =
    let passing = subst (λ (t : Standing). Passing c.args.store.now t c.args.limits (AreSupportedTo c.args.store.now.network (history c.args.store.now) c.args.f c.args.place c.loop-doubt.from)) (sym c.in-Some.ensures.same) c.loop-doubt.invariant.passing in
    halts_after c.args.store.now c.next_lacking.new.self c.gain_support.new.store c.args.limits _ c.in_err-gain_support.field-0.0 c.from_residual.result passing c.in_err-gain_support.ensures.does c.from_residual.ensures.1

pub returns-in_err-gain_support-clause-gains : goal.returns-in_err-gain_support-clause-gains
returns-in_err-gain_support-clause-gains c =
    let gained = subst (λ (t : Standing). GainedFor c.args.store.now t c.args.f) (sym c.in-Some.ensures.same) c.loop-doubt.invariant.gained in
    for_halts c.args.store.now c.next_lacking.new.self c.gain_support.new.store c.args.limits c.args.f c.in_err-gain_support.field-0.0 c.from_residual.result gained c.in_err-gain_support.ensures.gains c.from_residual.ensures.1

pub loop-doubt-preserved : goal.loop-doubt-preserved
loop-doubt-preserved c =
    let before = c.args.store.now in let now = c.next_lacking.new.self in let next = c.gain_support.new.store in
    let f = c.args.f in let i = c.args.place in let doubt = c.in-Some.doubt in
    let passing = subst (λ (t : Standing). Passing before t c.args.limits (AreSupportedTo before.network (history before) f i c.loop-doubt.from)) (sym c.in-Some.ensures.same) c.loop-doubt.invariant.passing in
    let gained = subst (λ (t : Standing). GainedFor before t f) (sym c.in-Some.ensures.same) c.loop-doubt.invariant.gained in
    let lacking = subst (λ (t : Standing). IsLacking t.network (history t) f i c.loop-doubt.from doubt) (sym c.in-Some.ensures.same) c.in-Some.ensures.lacking in
    record {
      passing = supported_more before now next c.args.limits f i doubt.value
          (supported_passed before now c.args.limits f i c.loop-doubt.from doubt.value passing lacking.is.passed)
          c.in_ok-gain_support.ensures.does c.in_ok-gain_support.ensures.support;
      gained = for_more before now next f gained c.in_ok-gain_support.ensures.gains;
    }

pub returns-clause-supports : goal.returns-clause-supports
returns-clause-supports c =
    let before = c.args.store.now in
    let passing = subst (λ (t : Standing). Passing before t c.args.limits (AreSupportedTo before.network (history before) c.args.f c.args.place c.loop-doubt.from)) (sym c.in_default.ensures.same) c.loop-doubt.invariant.passing in
    let free = subst (λ (t : Standing). AreFreeFrom t.network (history t) c.args.f c.args.place c.loop-doubt.from) (sym c.in_default.ensures.same) c.in_default.ensures.lacking in
    supported_all before c.next_lacking.new.self c.args.limits c.args.f c.args.place c.loop-doubt.from passing free

use Rattle.cfn_store.specs.Standing.{history}
use Rattle.std.proofs.Common.{length, ap, ◌∙◌, subst, arith}
use Rattle.cfn_model.specs.Network.{IsNetwork, scope_at}
use Rattle.cfn_gain.proofs.Adding.{halts_after, passing_start}
use Rattle.cfn_gain.proofs.Gaining.{for_more, for_halts, gained_none}
use Rattle.cfn_gain.proofs.Places.{few_places}
use Rattle.cfn_gain.proofs.Supporting.{no_place, place_more}
use Rattle.cfn_gain.proofs.supports.support_all.Goals as goal

pub overflow_cast-place-end : goal.overflow_cast-place-end
overflow_cast-place-end c =
    let few = few_places c.args.store.now.network c.args.f (subst IsNetwork c.network.ensures c.law_limits.ensures) c.requires.function in
    let same = ap length (c.scope.ensures ∙ ap (λ P. scope_at P c.args.f) c.network-2.ensures) in
    omega (arith, few, same)

pub returns-in_err-support_at-clause-does : goal.returns-in_err-support_at-clause-does
returns-in_err-support_at-clause-does c =
    halts_after c.args.store.now c.loop-place.store c.support_at.new.store c.args.limits _ c.in_err-support_at.field-0.0 c.from_residual.result c.loop-place.invariant.passing c.in_err-support_at.ensures.does c.from_residual.ensures.1

pub loop-place-preserved : goal.loop-place-preserved
loop-place-preserved c = record {
  passing = place_more c.args.store.now c.loop-place.store c.support_at.new.store c.args.limits c.args.f c.loop-place.place c.loop-place.invariant.passing c.in_ok-support_at.ensures.does c.in_ok-support_at.ensures.supports;
  gained = for_more c.args.store.now c.loop-place.store c.support_at.new.store c.args.f c.loop-place.invariant.gained c.in_ok-support_at.ensures.gains;
}

pub returns-in_err-support_at-clause-gains : goal.returns-in_err-support_at-clause-gains
returns-in_err-support_at-clause-gains c =
    for_halts c.args.store.now c.loop-place.store c.support_at.new.store c.args.limits c.args.f c.in_err-support_at.field-0.0 c.from_residual.result c.loop-place.invariant.gained c.in_err-support_at.ensures.gains c.from_residual.ensures.1

pub returns-clause-gains : goal.returns-clause-gains
returns-clause-gains c = c.loop-place.invariant.gained

pub loop-place-init : goal.loop-place-init
loop-place-init c = record {
  passing = passing_start c.args.store.now c.args.limits _ c.requires.goes (no_place c.args.store.now.network (history c.args.store.now) c.args.f);
  gained = λ part. gained_none c.args.store.now;
}

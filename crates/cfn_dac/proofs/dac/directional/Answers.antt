use Rattle.std.proofs.Common.{sym, ap, ◌∙◌, subst}
use Rattle.std.specs.Prelude.{slice_index}
use Rattle.cfn_model.specs.Network.{IsNetwork, variable_at}
use Rattle.cfn_store.specs.Standing.{history}
use Rattle.cfn_gain.proofs.CallerLemmas.{does_then, shows_after}
use Rattle.cfn_dac.proofs.Directing.{full_is_directional, below_at}
use Rattle.cfn_dac.proofs.Ending.{gains_lacking, gains_closed}
use Rattle.cfn_dac.proofs.dac.directional.Goals as goal

pub returns-in_err-full_supports-clause-gains : goal.returns-in_err-full_supports-clause-gains
returns-in_err-full_supports-clause-gains c =
    let err = c.in_err-full_supports.ensures in
    gains_lacking c.args.store.now c.full_supports.new.store c.args.limits c.in_err-full_supports.field-0.0 c.from_residual.result c.args.f c.in-Some.pair err.does.adds.network c.in-Some.ensures err.shifts err.through err.lacks err.spent c.from_residual.ensures.1

pub returns-clause-does : goal.returns-clause-does
returns-clause-does c = does_then c.args.store.now c.full_supports.new.store c.cut_costly.new.store c.args.limits c.cut_costly.result c.in_ok-full_supports.ensures.does c.cut_costly.ensures.does

pub returns-clause-gains : goal.returns-clause-gains
returns-clause-gains c =
    let ok = c.in_ok-full_supports.ensures in let pair = c.in-Some.pair in
    gains_closed c.args.store.now c.full_supports.new.store c.cut_costly.new.store c.args.limits c.cut_costly.result c.lacking-lacks.result _ c.args.f pair (subst IsNetwork c.network.ensures c.law_limits.ensures) ok.does.adds.network c.lacking-lacks.ensures c.in-Some.ensures ok.shifts
    (ap (λ l. slice_index l pair.place) c.scope.ensures ∙ ap (λ P. variable_at P c.args.f pair.place) c.network-2.ensures) ok.closed c.cut_costly.ensures.gains c.cut_costly.ensures.closes

pub returns-clause-directional : goal.returns-clause-directional
returns-clause-directional c =
    let s = c.args.store.now in let k = c.args.limits.threshold in let f = c.args.f in let pair = c.in-Some.pair in let ok = c.in_ok-full_supports.ensures in
    let at = ap (λ l. slice_index l pair.place) c.scope.ensures ∙ ap (λ P. variable_at P f pair.place) (c.network-2.ensures ∙ ok.does.adds.network) ∙ ap (λ g. variable_at s.network g pair.place) (sym c.in-Some.ensures.function) in
    shows_after s c.full_supports.new.store c.cut_costly.new.store c.args.limits c.cut_costly.result ok.does.adds c.cut_costly.ensures.does.adds ok.full c.cut_costly.ensures.below
    (λ is full below. full_is_directional s.network (history s) k c.lacking-lacks.result f pair (subst IsNetwork c.network.ensures c.law_limits.ensures) c.lacking-lacks.ensures c.in-Some.ensures full
    (below_at s c.full_supports.new.store k _ _ is at below))

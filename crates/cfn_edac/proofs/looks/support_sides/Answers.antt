use Rattle.std.proofs.Common.{sym, ap, ◌∙◌, subst, length}
use Rattle.cfn_model.specs.Network.{Network, scope_at}
use Rattle.cfn_store.specs.Standing.{history}
use Rattle.cfn_gain.proofs.CallerLemmas.{does_then, shows_after, gains_then}
use Rattle.cfn_due.specs.Siding.{HasSupports}
use Rattle.cfn_edac.proofs.Settling.{two_sides}
use Rattle.cfn_edac.proofs.looks.support_sides.Goals as goal

pub returns-clause-does : goal.returns-clause-does
returns-clause-does c =
    does_then c.args.store.now c.support_side.new.store c.support_side-2.new.store c.args.limits c.support_side-2.result c.in_ok-support_side.ensures.does c.support_side-2.ensures.does

pub returns-clause-gains : goal.returns-clause-gains
returns-clause-gains c =
    gains_then c.args.store.now c.support_side.new.store c.support_side-2.new.store c.args.limits c.support_side-2.result c.in_ok-support_side.ensures.gains c.support_side-2.ensures.gains

pub returns-clause-supports : goal.returns-clause-supports
returns-clause-supports c =
    let s = c.args.store.now in
    let one = c.in_ok-support_side.ensures.does in let two = c.support_side-2.ensures.does in
    let arity_is = sym (ap length (c.scope.ensures ∙ ap (λ (P : Network). scope_at P c.args.f) c.network-2.ensures)) ∙ c.if-scope-ne2.false in
    shows_after s c.support_side.new.store c.support_side-2.new.store c.args.limits c.support_side-2.result one.adds two.adds c.in_ok-support_side.ensures.supports c.support_side-2.ensures.supports
    (λ is first second. two_sides s.network (history s) c.args.f arity_is first (subst (λ t. HasSupports t.network (history t) c.args.f 1) is second))

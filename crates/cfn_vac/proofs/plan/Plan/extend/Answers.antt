use Rattle.std.proofs.Common.{◌<◌, length, ap, sym, ◌∙◌, subst}
use Rattle.std.specs.Prelude.{slice_index}
use Rattle.cfn_model.specs.Network.{Network, variable_at}
use Rattle.cfn_model.specs.Steps.{IsPlace}
use Rattle.cfn_rows.specs.Jagged.{row_at}
use Rattle.cfn_vac.specs.Plans.{Planned, IsPlanned}
use Rattle.cfn_vac.proofs.Numbers.{written, within}
use Rattle.cfn_vac.proofs.Gathering.{value_of, item_is}
use Rattle.cfn_vac.proofs.Wanting.{planned_extend}
use Rattle.cfn_vac.proofs.plan.Plan.extend.Goals as goal

pub invariant_of-self-2 : goal.invariant_of-self-2
invariant_of-self-2 c =
    let P = c.self.inside.network.now in let f = c.args.f in let j = c.args.place in let b = c.args.value in
    let x = slice_index c.scope.result.now j in
    let place = subst (λ (N : Network). IsPlace N f j b) (sym (ap (λ (p : Planned). p.network) c.self.view_is)) c.requires.place in
    let x_is = ap (λ l. slice_index l j) c.scope.ensures in
    let inside = within P c.self.inside.wants (variable_at P f j) b c.self.invariant.wants.shape (value_of P f j b c.law_limits.ensures place) in
    let wanted = sym (item_is (row_at c.self.inside.wants x) b c.get-wanted.result (subst (λ v. b < length (row_at c.self.inside.wants v)) (sym x_is) inside.1) c.get-wanted.ensures) in
    subst (λ l. IsPlanned P l c.set.new.self) (sym c.in_ok-push.ensures.items)
    (planned_extend P c.self.inside.steps.items c.self.inside.wants c.set.new.self f j b c.args.amount x c.get-wanted.result c.law_limits.ensures c.self.invariant place c.requires.amount.0 c.requires.amount.1 x_is wanted
    (c.set.ensures ∙ ap (λ n. written c.self.inside.wants x b n) c.min.ensures))

use Rattle.std.proofs.Common.{◌∙◌, sym, ap, subst}
use Rattle.std.specs.List.{list_any}
use Rattle.cfn_machine.specs.Parts.{HasActiveBelow, NoneActiveBelow}
use Rattle.cfn_leaves.specs.Read.{active_below}
use Rattle.cfn_leaves.specs.Value.{Holding, pool_tree}
use Rattle.cfn_leaves.proofs.Actives.{some_active, none_active}
use Rattle.cfn_leaves.proofs.Insides.{value, body}
use Rattle.cfn_leaves.proofs.leaves.Leaves.has_active_below.Goals as goal

pub returns-clause-some : goal.returns-clause-some
returns-clause-some c = λ is.
    let m = value c.self.inside in
    subst (λ (h : Holding). HasActiveBelow h.network (pool_tree h) c.args.threshold) c.self.view_is
    (some_active m.network (body c.self.inside) (pool_tree m) c.law_same_before.ensures.once c.self.invariant.body c.args.threshold
    (ap (list_any (active_below c.args.threshold)) (sym c.deref.ensures.value) ∙ sym c.any_active_below.ensures ∙ is))

pub returns-clause-none : goal.returns-clause-none
returns-clause-none c = λ is.
    let m = value c.self.inside in
    subst (λ (h : Holding). NoneActiveBelow h.network (pool_tree h) c.args.threshold) c.self.view_is
    (none_active m.network (body c.self.inside) (pool_tree m) c.law_same_before.ensures.once c.self.invariant.body c.args.threshold
    (ap (list_any (active_below c.args.threshold)) (sym c.deref.ensures.value) ∙ sym c.any_active_below.ensures ∙ is))

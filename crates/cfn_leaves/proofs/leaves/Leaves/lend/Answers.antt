use Rattle.std.proofs.Common.{◌≡◌, ◌∙◌, ap, sym, subst, arith, Some}
use Rattle.cfn_leaves.specs.Standing.{entry_at}
use Rattle.cfn_leaves.specs.Value.{Holding, pool_tree}
use Rattle.cfn_leaves.specs.Handing.{IsNext, Lends}
use Rattle.cfn_leaves.proofs.HandingOut.{none_free}
use Rattle.cfn_leaves.proofs.Lending.{lent}
use Rattle.cfn_leaves.proofs.Insides.{value, body}
use Rattle.cfn_leaves.proofs.leaves.Leaves.lend.Goals as goal

pub returns-in_default-clause-lends : goal.returns-in_default-clause-lends
returns-in_default-clause-lends c =
    let m = value c.self.inside in
    let next = subst (λ (h : Holding). IsNext h c.args.due) (sym c.self.view_is) c.requires.next in
    absurd (none_free m.network (body c.self.inside) (pool_tree m) c.law_same_before.ensures.once c.self.invariant.body c.in_default.ensures.least c.args.due.leaf.leaf next.path next.first.leaf)

pub invariant_of-self-2 : goal.invariant_of-self-2
invariant_of-self-2 c =
    let m = value c.self.inside in
    let inside = c.self.invariant in
    let next = subst (λ (h : Holding). IsNext h c.args.due) (sym c.self.view_is) c.requires.next in
    let first = c.in-Some.first in
    let at : entry_at m.table first.leaf ≡ Some c.in-Some-held.entry = ap (λ l. entry_at l first.leaf) (sym c.deref.ensures.value) ∙ sym c.held.ensures ∙ c.in-Some-held.is in
    let step = lent m c.self.inside.list c.take_least.new.self c.self.inside.opened c.self.inside.granted first c.in-Some-held.entry c.args.due c.args.worker c.args.want c.min-grant.result c.mark.new.table.items
    c.law_same_before.ensures.once inside.body next c.in-Some.ensures.least at c.requires.wants c.min-grant.ensures c.in-Some.ensures.rest.0 c.in-Some.ensures.rest.1 c.mark.ensures in
    record { body = step.body; within = omega (arith, inside.within, inside.body.granted, next.lefts, c.min-grant.ensures); few = inside.few; place = inside.place }

pub returns-clause-lends : goal.returns-clause-lends
returns-clause-lends c =
    let m = value c.self.inside in
    let inside = c.self.invariant in
    let next = subst (λ (h : Holding). IsNext h c.args.due) (sym c.self.view_is) c.requires.next in
    let first = c.in-Some.first in
    let at : entry_at m.table first.leaf ≡ Some c.in-Some-held.entry = ap (λ l. entry_at l first.leaf) (sym c.deref.ensures.value) ∙ sym c.held.ensures ∙ c.in-Some-held.is in
    let step = lent m c.self.inside.list c.take_least.new.self c.self.inside.opened c.self.inside.granted first c.in-Some-held.entry c.args.due c.args.worker c.args.want c.min-grant.result c.mark.new.table.items
    c.law_same_before.ensures.once inside.body next c.in-Some.ensures.least at c.requires.wants c.min-grant.ensures c.in-Some.ensures.rest.0 c.in-Some.ensures.rest.1 c.mark.ensures in
    let new : Holding = record m { table = c.mark.new.table.items } in
    subst (λ (old : Holding). Lends old c.args.due c.args.worker c.args.want new) c.self.view_is step.lends

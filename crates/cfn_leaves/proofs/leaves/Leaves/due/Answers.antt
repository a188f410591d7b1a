use Rattle.std.proofs.Common.{◌≡◌, ◌<◌, ◌+◌, ◌-◌, ◌∙◌, ap, sym, subst, refl, inl, inr, arith, Some, true≢false}
use Rattle.std.proofs.lemmas.Bool.{cases_eq}
use Rattle.cfn_machine.specs.Pool.{active_leaves, View}
use Rattle.cfn_machine.specs.Steps.{HasNone, AllOut}
use Rattle.cfn_leaves.specs.Standing.{entry_at}
use Rattle.cfn_leaves.specs.Value.{Holding, pool_tree, pool_of}
use Rattle.cfn_leaves.specs.declared.handing.Due.{Due}
use Rattle.cfn_leaves.specs.Handing.{IsNext}
use Rattle.cfn_leaves.proofs.HandingOut.{none_free}
use Rattle.cfn_leaves.proofs.Lending.{next_is}
use Rattle.cfn_leaves.proofs.Insides.{value, body}
use Rattle.cfn_leaves.proofs.leaves.Leaves.due.Goals as goal

pub returns-in_default : goal.returns-in_default
returns-in_default c =
    let m = value c.self.inside in
    let inside = c.self.invariant in
    let some : 0 < active_leaves (pool_tree m) = elim (cases_eq (active_leaves (pool_tree m)) 0) [
      | inl none ↦ absurd (true≢false (sym (c.has_none_active.ensures.1 (subst (λ (h : Holding). active_leaves (pool_tree h) ≡ 0) c.self.view_is none)) ∙ c.if-has_none_active.false))
      | inr other ↦ omega (arith, other)
    ] in
    subst (λ (h : Holding). (view : View) → HasNone (pool_of h view) AllOut) c.self.view_is
    (λ view. (some, c.if-self.false, inl (none_free m.network (body c.self.inside) (pool_tree m) c.law_same_before.ensures.once inside.body c.in_default.ensures)))

pub returns : goal.returns
returns c =
    let m = value c.self.inside in
    let inside = c.self.invariant in
    let at : entry_at m.table c.in-Some.first.leaf ≡ Some c.in-Some-held.entry = ap (λ l. entry_at l c.in-Some.first.leaf) (sym c.deref.ensures.value) ∙ sym c.held.ensures ∙ c.in-Some-held.is in
    let due : Due = record { leaf = c.in-Some.first; node = c.in-Some-held.entry.node; left = m.budget - (m.nodes + c.self.inside.granted) } in
    subst (λ (h : Holding). IsNext h due) c.self.view_is
    (next_is m (body c.self.inside) c.in-Some.first c.in-Some-held.entry due c.law_same_before.ensures.once refl refl inside.body c.in-Some.ensures at refl refl (omega (arith, inside.within)) c.if-left-eq0.false c.if-self.false)

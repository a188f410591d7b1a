use Rattle.std.proofs.Common.{◌≡◌, ◌∙◌, sym, subst, eq-eqb, eqb-true, IsTrue, nat_eq}
use Rattle.cfn_machine.specs.Pool.{active_leaves}
use Rattle.cfn_leaves.specs.Value.{Holding, pool_tree}
use Rattle.cfn_leaves.proofs.HandingOut.{none_then, nothing_granted, nothing_listed}
use Rattle.cfn_leaves.proofs.Insides.{value, body}
use Rattle.cfn_leaves.proofs.leaves.Leaves.has_none_active.Goals as goal

pub returns-then-len-eq0 : goal.returns-then-len-eq0
returns-then-len-eq0 c =
    let m = value c.self.inside in
    let b = body c.self.inside in
    let held = c.self.invariant.body in
    let once = c.law_same_before.ensures.once in
    subst (λ (h : Holding). (IsTrue (nat_eq c.self.inside.granted 0) → active_leaves (pool_tree h) ≡ 0) × (active_leaves (pool_tree h) ≡ 0 → IsTrue (nat_eq c.self.inside.granted 0))) c.self.view_is (
      λ none. none_then m.network b (pool_tree m) once held (sym c.len.ensures ∙ c.if-len-eq0.true) (eqb-true _ _ none),
      λ none. eq-eqb _ _ (nothing_granted m.network b (pool_tree m) once held none),
    )

pub returns-else-len-eq0 : goal.returns-else-len-eq0
returns-else-len-eq0 c =
    let m = value c.self.inside in
    let b = body c.self.inside in
    let held = c.self.invariant.body in
    let once = c.law_same_before.ensures.once in
    subst (λ (h : Holding). (IsTrue (nat_eq c.len.result 0) → active_leaves (pool_tree h) ≡ 0) × (active_leaves (pool_tree h) ≡ 0 → IsTrue (nat_eq c.len.result 0))) c.self.view_is (
      λ none. absurd (c.if-len-eq0.false (eqb-true _ _ none)),
      λ none. absurd (c.if-len-eq0.false (c.len.ensures ∙ nothing_listed m.network b (pool_tree m) once held none)),
    )

use Rattle.std.proofs.Common.{◌∙◌, ◌++◌, length, take, ap, sym, subst, reverse, arith}
use Rattle.cfn_store.specs.Events.{with_first}
use Rattle.cfn_scan.specs.Exact.{IsExactAlong}
use Rattle.cfn_store.specs.Standing.{Standing}
use Rattle.cfn_store.proofs.Stores.{at_end}
use Rattle.cfn_store.proofs.store.Store.go_along.Goals as goal

pub go_on-requires-clause-exact : goal.go_on-requires-clause-exact
go_on-requires-clause-exact c =
    let left = with_first c.in_common-common.result.1 c.in_common-common.new.path in
    let whole = ap (λ l. l ++ left) (c.go_back.ensures.trail ∙ ap (take c.in_common-common.result.0) (sym c.deref.ensures.value)) ∙ sym c.in_common-common.ensures.same in
    subst (λ P. IsExactAlong P (reverse (c.go_back.new.self.trail.items ++ left))) (sym (ap (λ (s : Standing). s.network) c.self.view_is))
    (subst (λ l. IsExactAlong c.args.self.now.network (reverse l)) (sym whole) c.requires.exact)

pub go_on-requires-clause-room : goal.go_on-requires-clause-room
go_on-requires-clause-room c =
    let left = with_first c.in_common-common.result.1 c.in_common-common.new.path in
    let whole = ap (λ l. l ++ left) (c.go_back.ensures.trail ∙ ap (take c.in_common-common.result.0) (sym c.deref.ensures.value)) ∙ sym c.in_common-common.ensures.same in
    let v = ap (λ (s : Standing). s.spare) c.self.view_is in let r = c.requires.room in let w = ap length whole in
    (c.self.inside.room, c.go_back.ensures.room c.self.inside.room c.self.invariant.0.room, omega (arith, v, r, w))

pub invariant_of-self : goal.invariant_of-self
invariant_of-self c =
    let left = with_first c.in_common-common.result.1 c.in_common-common.new.path in
    let whole = ap (λ l. l ++ left) (c.go_back.ensures.trail ∙ ap (take c.in_common-common.result.0) (sym c.deref.ensures.value)) ∙ sym c.in_common-common.ensures.same in
    let v = ap (λ (s : Standing). s.spare) c.self.view_is in let r = c.requires.room in
    let t = ap length (c.go_on.ensures.trail ∙ whole) in let l = c.len-self-inside.ensures in
    (at_end c.self.inside.network.now c.self.inside.room c.len-self-inside.result c.go_on.new.self c.go_on.ensures.state (c.go_on.ensures.room c.self.inside.room (c.go_back.ensures.room c.self.inside.room c.self.invariant.0.room)) (omega (arith, v, r, t)) (omega (arith, l)), c.self.invariant.1)

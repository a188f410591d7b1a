use Rattle.std.proofs.Common.{sym, ap, subst, ◌∙◌, ℕ, List, get_or, arith}
use Rattle.cfn_model.specs.Network.{Network, scope_at}
use Rattle.cfn_model.specs.Steps.{IsPlace}
use Rattle.cfn_store.specs.Standing.{Standing}
use Rattle.cfn_net.proofs.CallerLemmas.{get_or-dims}
use Rattle.cfn_settled_tests.proofs.telling.fault_on.Goals as goal

pub fault_by-requires : goal.fault_by-requires
fault_by-requires c =
    let P = c.args.network.now in
    let size = get_or-dims P.sizes (scope_at P c.args.f) c.args.place c.requires.place in
    let is = c.scope.ensures in
    let read = ap (λ (xs : List ℕ). get_or P.sizes (get_or xs c.args.place 0) 0) is in
    subst (λ (Q : Network). IsPlace Q c.args.f c.args.place c.loop-value.value)
    (sym (ap (λ (s : Standing). s.network) c.loop-value.invariant ∙ c.requires.network))
    (record { function = c.requires.function; place = c.requires.place; value = omega (arith, size, read) })

use Rattle.std.proofs.Common.{◌≡◌, ℕ, ◌+◌, ◌<◌, List, length, get_or, take, ap, sym, ◌∙◌, arith}
use Rattle.std.proofs.lemmas.List.{take-map, length-take-le}
use Rattle.cfn_model.specs.Network.{dims, dims_at, scope_at}
use Rattle.cfn_net.proofs.CallerLemmas.{length-dims, get_or-dims}
use Rattle.cfn_tables.specs.Slots.{slots}
use Rattle.cfn_tables.proofs.Arities.{arity_small}
use Rattle.cfn_tables.proofs.Counting.{slot_below, slots_few}
use Rattle.cfn_tables.proofs.shifts.slot.Goals as goal

pub slots-requires-clause-few : goal.slots-requires-clause-few
slots-requires-clause-few c =
    let e = ap length c.scope.ensures in
    let t = length-take-le c.args.place c.scope.result.now (omega (arith, e, c.requires.place)) in
    omega (arith, t, arity_small c.args.network.now c.args.f c.law_limits.ensures c.requires.function, c.requires.place)

before : (c : goal.After-slots) → c.slots.result ≡ slots (take c.args.place (dims_at c.args.network.now c.args.f))
before c =
    c.slots.ensures
    ∙ ap slots (sym (take-map (λ x. get_or c.args.network.now.sizes x 0) c.args.place c.scope.result.now))
    ∙ ap (λ (xs : List ℕ). slots (take c.args.place (dims c.args.network.now.sizes xs))) c.scope.ensures

pub overflow_add-result : goal.overflow_add-result
overflow_add-result c =
    let P = c.args.network.now in
    let limits = c.law_limits.ensures in
    let scope = scope_at P c.args.f in
    let few = slots_few (dims_at P c.args.f) 4096 (λ i l. let m : i < length scope = omega (arith, l, length-dims P.sizes scope) in let most = (limits.sizes (get_or scope i 0) ((limits.functions c.args.f c.requires.function).variables i m)).1 in omega (arith, most, get_or-dims P.sizes scope i m)) in
    let below = slot_below (dims_at P c.args.f) c.args.place c.args.value (omega (arith, c.requires.place, length-dims P.sizes scope)) c.requires.value in
    omega (arith, before c, below, few, length-dims P.sizes scope, arity_small P c.args.f limits c.requires.function)

pub returns-clause-value : goal.returns-clause-value
returns-clause-value c = ap (λ n. n + c.args.value) (before c)

pub returns-clause-below : goal.returns-clause-below
returns-clause-below c =
    let P = c.args.network.now in
    let below = slot_below (dims_at P c.args.f) c.args.place c.args.value (omega (arith, c.requires.place, length-dims P.sizes (scope_at P c.args.f))) c.requires.value in
    omega (arith, before c, below)

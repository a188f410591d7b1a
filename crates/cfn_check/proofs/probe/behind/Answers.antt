use Rattle.std.proofs.Common.{◌≡◌, ◌+◌, ◌*◌, sym, ap, subst, arith}
use Rattle.std.proofs.Common.{to_z, of_z}
use mir.Syntax.{w128}
use Rattle.std.proofs.lemmas.Int.{ints, to_z-of_z}
use Rattle.std.specs.Prelude.{◌+ℤ◌}
use Rattle.cfn_check.specs.declared.probe.Spot.{Spot}
use Rattle.cfn_tables.specs.Slots.{shifted}
use Rattle.cfn_check.specs.Probing.{IsSpot, spot_behind}
use Rattle.cfn_tables.proofs.CallerLemmas.{arity_small}
use Rattle.cfn_check.proofs.Probing.{next_spot, same_spot, size_at, room_behind}
use Rattle.cfn_check.proofs.probe.behind.Goals as goal

pub overflow_add-result : goal.overflow_add-result
overflow_add-result c = omega (arith, c.requires.place, arity_small c.args.network.now c.args.f c.law_limits.ensures c.requires.function)

pub overflow_mul-result : goal.overflow_mul-result
overflow_mul-result c =
    let size = size_at c.args.network.now c.args.f c.scope.result.now c.args.spot.place c.size-size.result c.scope.ensures c.requires.place c.size-size.ensures in
    let room = room_behind c.args.network.now c.args.f c.args.spot c.args.value c.size-size.result c.law_limits.ensures c.requires.function c.requires.spot c.requires.place c.requires.value size in
    omega (arith, room.number)

pub overflow_add-result-2 : goal.overflow_add-result-2
overflow_add-result-2 c =
    let size = size_at c.args.network.now c.args.f c.scope.result.now c.args.spot.place c.size-size.result c.scope.ensures c.requires.place c.size-size.ensures in
    let room = room_behind c.args.network.now c.args.f c.args.spot c.args.value c.size-size.result c.law_limits.ensures c.requires.function c.requires.spot c.requires.place c.requires.value size in
    omega (arith, room.number)

pub overflow_add-result-3 : goal.overflow_add-result-3
overflow_add-result-3 c =
    let size = size_at c.args.network.now c.args.f c.scope.result.now c.args.spot.place c.size-size.result c.scope.ensures c.requires.place c.size-size.ensures in
    let room = room_behind c.args.network.now c.args.f c.args.spot c.args.value c.size-size.result c.law_limits.ensures c.requires.function c.requires.spot c.requires.place c.requires.value size in
    omega (arith, room.slot)

pub overflow_add-spot : goal.overflow_add-spot
overflow_add-spot c =
    let size = size_at c.args.network.now c.args.f c.scope.result.now c.args.spot.place c.size-size.result c.scope.ensures c.requires.place c.size-size.ensures in
    let room = room_behind c.args.network.now c.args.f c.args.spot c.args.value c.size-size.result c.law_limits.ensures c.requires.function c.requires.spot c.requires.place c.requires.value size in
    omega (arith, room.at)

-- the bound and what is shifted leave room
pub overflow_add-result-4 : goal.overflow_add-result-4
overflow_add-result-4 c =
    let few = arity_small c.args.network.now c.args.f c.law_limits.ensures c.requires.function in
    let is = c.requires.spot in
    let small = c.shifted.ensures.small in
    let bound = to_z-of_z w128 c.args.spot.bound (omega (arith, ints, is.low, is.high, c.requires.place, few)) in
    let shift = to_z-of_z w128 c.shifted.result (omega (arith, ints, c.shifted.ensures.value, small.low, small.high)) in
    omega (arith, ints, bound, shift, is.low, is.high, c.shifted.ensures.value, small.low, small.high, c.requires.place, few)

bound_is : (c : goal.After-struct_told-1) → to_z w128 (of_z w128 (to_z w128 (of_z w128 c.args.spot.bound) +ℤ to_z w128 (of_z w128 c.shifted.result))) ≡ (c.args.spot.bound +ℤ shifted c.args.network.now c.args.ledger.now.history c.args.f (c.args.spot.slot + c.args.value))
bound_is c =
    let few = arity_small c.args.network.now c.args.f c.law_limits.ensures c.requires.function in
    let is = c.requires.spot in
    let small = c.shifted.ensures.small in
    let value = rw (← c.requires.same) at c.shifted.ensures.value in
    let bound = to_z-of_z w128 c.args.spot.bound (omega (arith, ints, is.low, is.high, c.requires.place, few)) in
    let shift = to_z-of_z w128 c.shifted.result (omega (arith, ints, c.shifted.ensures.value, small.low, small.high)) in
    let sum = to_z-of_z w128 _ (overflow_add-result-4 c) in
    omega (arith, ints, bound, shift, sum, value)

spot_is : (c : goal.After-struct_told-1) → ◌≡◌ {A = Spot} (record { place = c.args.spot.place + 1; number = c.args.spot.number * c.size-size.result + c.args.value; slot = c.args.spot.slot + c.size-size.result; bound = to_z w128 (of_z w128 (to_z w128 (of_z w128 c.args.spot.bound) +ℤ to_z w128 (of_z w128 c.shifted.result))) }) (spot_behind c.args.network.now c.args.ledger.now.history c.args.f c.args.spot c.args.value)
spot_is c =
    let size = size_at c.args.network.now c.args.f c.scope.result.now c.args.spot.place c.size-size.result c.scope.ensures c.requires.place c.size-size.ensures in
    same_spot _ _ _ _ _ _ _ (ap (λ n. c.args.spot.number * n + c.args.value) size) (ap (λ n. c.args.spot.slot + n) size) (bound_is c)

pub returns-clause-behind : goal.returns-clause-behind
returns-clause-behind c = spot_is c

pub returns-clause-spot : goal.returns-clause-spot
returns-clause-spot c =
    let small = rw (← c.requires.same) at c.shifted.ensures.small in
    subst (λ (s : Spot). IsSpot c.args.network.now c.args.f s) (sym (spot_is c)) (next_spot c.args.network.now c.args.ledger.now.history c.args.f c.args.spot c.args.value c.requires.spot c.requires.place c.requires.value small)

use Rattle.std.proofs.Common.{◌≡◌, ◌<◌, ℕ, List, length, get_or, set, subst, ap, ◌∙◌, arith}
use Rattle.std.proofs.Common.{to_z, of_z}
use mir.Syntax.{w128}
use Rattle.std.proofs.lemmas.Int.{to_z-of_z}
use Rattle.std.proofs.lemmas.List.{get_or_read}
use Rattle.cfn_model.specs.Network.{variable_at}
use Rattle.std.specs.Prelude.{◌==◌, pos, ◌+ℤ◌}
use Rattle.cfn_model.specs.Sums.{when}
use Rattle.cfn_tables.specs.Values.{Gains}
use Rattle.cfn_tables.specs.Tables.{Values, Tuples, no_values, no_tuples}
use Rattle.cfn_tables.proofs.Shifted.{shifted}
use Rattle.cfn_tables.proofs.costs.Costs.shift.Goals as goal

pub returns-clause-moves : goal.returns-clause-moves
returns-clause-moves c =
    let P = c.args.network.now in
    let x = get_or c.scope.result.now c.args.place 0 in
    let shape = rw (← c.self.view_is) at c.requires.shape in
    let at : x ≡ variable_at P c.args.f c.args.place = ap (λ (xs : List ℕ). get_or xs c.args.place 0) c.scope.ensures in
    let there : x < length P.sizes = omega (arith, at, (c.law_limits.ensures.functions c.args.f c.requires.place.function).variables c.args.place c.requires.place.place) in
    let vars : x < length c.self.inside.domains.items = omega (arith, shape.variables) in
    let funs : c.args.f < length c.self.inside.functions.items = omega (arith, shape.functions, c.requires.place.function) in
    let v : c.index_mut.result.now ≡ get_or c.self.inside.domains.items x no_values = get_or_read c.self.inside.domains.items x c.index_mut.result.now vars c.index_mut.ensures.value no_values in
    let t : c.index_mut-2.result.now ≡ get_or c.self.inside.functions.items c.args.f no_tuples = get_or_read c.self.inside.functions.items c.args.f c.index_mut-2.result.now funs c.index_mut-2.ensures.value no_tuples in
    let amount : to_z w128 (of_z w128 c.args.amount) ≡ c.args.amount = to_z-of_z w128 c.args.amount c.ranges.amount in
    let gains = subst (λ (w : Values). Gains (λ b. when (c.args.value == b) c.args.amount) w.costs c.add.new.self.costs) v (rw amount at c.add.ensures.costs) in
    let sums = subst (λ (w : Tuples). c.add-2.new.self.sums ≡ set w.sums c.slot-slot.result (c.args.amount +ℤ get_or w.sums c.slot-slot.result (pos 0))) t (rw amount at c.add-2.ensures.sums) in
    rw (← c.self.view_is) (shifted P c.args.f c.args.place c.args.value x c.slot-slot.result c.args.amount _ c.add.new.self c.add-2.new.self shape c.requires.place there at c.slot-slot.ensures.value (omega (arith, c.slot-slot.ensures.below, shape.sums c.args.f c.requires.place.function)) gains (c.add.ensures.takers ∙ ap (λ w. w.takers) v) sums)

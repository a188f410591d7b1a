use Rattle.std.proofs.Common.{◌≡◌, length, sym, ap, subst, arith}
use Rattle.cfn_ranking.specs.Trees.{NumbersAreThere}
use Rattle.cfn_ranking.specs.Ranked.{Ranked, IsRanked}
use Rattle.cfn_ranking.specs.Finished.{AreNumbered, AreThere, IsSwept}
use Rattle.cfn_ranking.proofs.Lists.{length_solutions}
use Rattle.cfn_ranking.proofs.Ends.{finished_as, leaves_few, leaves_there, numbers_there, opened_where}
use Rattle.cfn_ranking.proofs.ranking.Ranking.finish.Goals as goal

pub number_all-requires-clause-there : goal.number_all-requires-clause-there
number_all-requires-clause-there c =
    let P = c.args.network.now in
    let ranked = subst (IsRanked P) (sym c.ranking.view_is) c.sweep.ensures.swept.ranked in
    subst (AreThere (length c.ranking.inside.numbers.items)) (sym c.deref.ensures.value) (leaves_there P _ ranked)

pub number_all-requires-clause-few : goal.number_all-requires-clause-few
number_all-requires-clause-few c =
    let P = c.args.network.now in
    let few = leaves_few P c.sweep.new.self c.sweep.ensures.swept.ranked in
    let v = ap (λ (r : Ranked). length r.leaves) c.ranking.view_is in
    let d = ap length c.deref.ensures.value in
    let n = ap (λ (r : Ranked). r.count) c.sweep.ensures.swept.same in
    let k = c.requires.few in
    omega (arith, few, v, d, n, k)

pub returns-clause-list : goal.returns-clause-list
returns-clause-list c =
    let P = c.args.network.now in
    let swept = subst (IsSwept P c.args.self) (sym c.ranking.view_is) c.sweep.ensures.swept in
    let numbered = subst (λ l. AreNumbered l c.ranking.inside.numbers.items c.number_all.new.numbers.items) c.deref.ensures.value c.number_all.ensures in
    let asked : c.ranking.inside.count ≡ c.args.self.count = ap (λ (r : Ranked). r.count) swept.same in
    finished_as P _ c.number_all.new.numbers.items c.args.self.spent c.bound-lower.result c.variables.result c.functions.result c.ub.result c.args.self.count swept.ranked numbered (sym (ap (λ (r : Ranked). r.spent) swept.same)) c.bound-lower.ensures swept.below c.variables.ensures c.functions.ensures c.ub.ensures asked

pub returns-clause-open : goal.returns-clause-open
returns-clause-open c =
    let P = c.args.network.now in
    let swept = subst (IsSwept P c.args.self) (sym c.ranking.view_is) c.sweep.ensures.swept in
    let numbered = subst (λ l. AreNumbered l c.ranking.inside.numbers.items c.number_all.new.numbers.items) c.deref.ensures.value c.number_all.ensures in
    opened_where P _ c.number_all.new.numbers.items swept.ranked numbered c.has_open-is_open.result c.has_open-is_open.ensures

pub invariant_of-result-clause-numbers_there : goal.invariant_of-result-clause-numbers_there
invariant_of-result-clause-numbers_there c =
    let P = c.args.network.now in
    let swept = subst (IsSwept P c.args.self) (sym c.ranking.view_is) c.sweep.ensures.swept in
    let numbered = subst (λ l. AreNumbered l c.ranking.inside.numbers.items c.number_all.new.numbers.items) c.deref.ensures.value c.number_all.ensures in
    subst (NumbersAreThere c.ranking.inside.tree c.number_all.new.numbers.items) (length_solutions c.ranking.inside.list.items) (numbers_there P _ c.number_all.new.numbers.items swept.ranked numbered)

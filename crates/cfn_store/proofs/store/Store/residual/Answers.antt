use Rattle.std.proofs.Common.{◌≡◌, ◌<◌, false, List, length, ap, arith}
use Rattle.std.specs.Prelude.{pos, IsTrue}
use Rattle.cfn_model.specs.Network.{arity}
use Rattle.cfn_model.specs.Sums.{residual, is_live_tuple}
use Rattle.cfn_scan.specs.Extremes.{IsNumbered}
use Rattle.cfn_store.specs.State.{history_of}
use Rattle.cfn_scan.proofs.CallerLemmas.{exact_here, live_cost, none_there, one_there, nothing_moved}
use Rattle.cfn_store.proofs.Stores.{over}
use Rattle.cfn_store.proofs.store.Store.residual.Goals as goal

pub returns-then-is_empty-clause-live : goal.returns-then-is_empty-clause-live
returns-then-is_empty-clause-live c =
    let P = c.self.inside.network.now in let h = history_of c.self.inside.state in
    over P c.self.inside.base c.self.inside.room c.self.inside.state c.args.self.now c.self.invariant.0 c.self.view_is (λ N g. (tuple : List _) → IsNumbered N c.args.f c.args.cell tuple → IsTrue (is_live_tuple N g c.args.f tuple) → residual N g c.args.f tuple ≡ pos 0)
    (λ tuple is live.
    (let none : arity P c.args.f ≡ 0 = (let t = c.if-is_empty.true in let e = c.is_empty.ensures in let s = ap length c.scope.ensures in grind (arith, t, e, s)) in
    nothing_moved P h c.args.f c.args.cell tuple (exact_here P h c.self.invariant.0.state.exact) none is))

pub returns-in-Some-clause-live : goal.returns-in-Some-clause-live
returns-in-Some-clause-live c =
    let P = c.self.inside.network.now in let h = history_of c.self.inside.state in
    over P c.self.inside.base c.self.inside.room c.self.inside.state c.args.self.now c.self.invariant.0 c.self.view_is (λ N g. (tuple : List _) → IsNumbered N c.args.f c.args.cell tuple → IsTrue (is_live_tuple N g c.args.f tuple) → residual N g c.args.f tuple ≡ pos c.in-Some.found.cost)
    (λ tuple is live.
    (let some : 0 < arity P c.args.f = (let t = c.if-is_empty.false in let e = c.is_empty.ensures in let s = ap length c.scope.ensures in grind (arith, t, e, s)) in
    live_cost P h c.args.f tuple c.at.result c.in-Some.found (c.at.ensures tuple is) c.in-Some.is some))

pub returns-in-Some-clause-dead : goal.returns-in-Some-clause-dead
returns-in-Some-clause-dead c =
    let P = c.self.inside.network.now in let h = history_of c.self.inside.state in
    over P c.self.inside.base c.self.inside.room c.self.inside.state c.args.self.now c.self.invariant.0 c.self.view_is (λ N g. (tuple : List _) → IsNumbered N c.args.f c.args.cell tuple → is_live_tuple N g c.args.f tuple ≡ false → c.in-Some.found.cost ≡ 0)
    (λ tuple is dead. absurd (one_there P h c.args.f tuple c.at.result c.in-Some.found (c.at.ensures tuple is) c.in-Some.is dead))

pub returns-in-None-clause-live : goal.returns-in-None-clause-live
returns-in-None-clause-live c =
    let P = c.self.inside.network.now in let h = history_of c.self.inside.state in
    over P c.self.inside.base c.self.inside.room c.self.inside.state c.args.self.now c.self.invariant.0 c.self.view_is (λ N g. (tuple : List _) → IsNumbered N c.args.f c.args.cell tuple → IsTrue (is_live_tuple N g c.args.f tuple) → residual N g c.args.f tuple ≡ pos 0)
    (λ tuple is live. absurd (none_there P h c.args.f tuple c.at.result (c.at.ensures tuple is) c.in-None.is live))

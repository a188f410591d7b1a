use Rattle.std.proofs.Common.{◌<◌, length, sym, subst}
use Rattle.cfn_store.specs.Standing.{Standing}
use Rattle.cfn_store.specs.State.{history_of}
use Rattle.cfn_scan.specs.Unaries.{AreUnaries}
use Rattle.cfn_scan.proofs.CallerLemmas.{exact_here}
use Rattle.cfn_store.proofs.Stores.{over}
use Rattle.cfn_store.proofs.store.Store.unaries.Goals as goal

pub returns : goal.returns
returns c =
    let P = c.self.inside.network.now in let h = history_of c.self.inside.state in
    over P c.self.inside.base c.self.inside.room c.self.inside.state c.args.self.now c.self.invariant.0 c.self.view_is (λ N g. AreUnaries N g c.args.x c.unaries.result)
    (c.unaries.ensures P h c.self.invariant.0.state.keeps.sums (exact_here P h c.self.invariant.0.state.exact) (subst (λ (t : Standing). c.args.x < length t.network.sizes) (sym c.self.view_is) c.requires))

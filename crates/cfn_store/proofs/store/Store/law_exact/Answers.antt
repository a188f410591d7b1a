use Rattle.std.proofs.Common.{subst, sym}
use Rattle.cfn_scan.specs.Exact.{IsExactAlong}
use Rattle.cfn_store.specs.Standing.{Standing, history}
use Rattle.cfn_store.proofs.Stores.{history_is}
use Rattle.cfn_store.proofs.store.Store.law_exact.Goals as goal

pub returns : goal.returns
returns c =
    subst (λ (s : Standing). IsExactAlong s.network (history s)) c.self.view_is
    (subst (IsExactAlong c.self.inside.network.now) (sym (history_is c.self.inside.network.now c.self.inside.base c.self.inside.room c.self.inside.state c.self.invariant.0.steps)) c.self.invariant.0.state.exact)

use Rattle.std.proofs.Common.{reverse, subst, sym}
use Rattle.cfn_model.specs.Network.{IsNetwork}
use Rattle.cfn_scan.specs.Exact.{IsExactAlong}
use Rattle.cfn_store.proofs.Paths.{exact_path}
use Rattle.cfn_store.proofs.store.Store.replay.Goals as goal

pub go_along-requires-clause-exact : goal.go_along-requires-clause-exact
go_along-requires-clause-exact c =
    subst (λ N. IsExactAlong N (reverse c.events.result)) (sym c.reserve.ensures.network)
    (subst (IsExactAlong c.args.self.now.network) c.events.ensures
    (exact_path c.args.self.now.network c.args.path.now c.requires.runs.0 (subst IsNetwork c.network.ensures c.law_limits.ensures) c.requires.runs.1 c.requires.tame))

use Rattle.std.proofs.Common.{◌≡◌}
use Rattle.cfn_store.proofs.Stores.{over}
use Rattle.cfn_model.specs.Sums.{floor}
use Rattle.cfn_store.proofs.store.Store.floor.Goals as goal

pub returns : goal.returns
returns c = over c.self.inside.network.now c.self.inside.base c.self.inside.room c.self.inside.state c.args.self.now c.self.invariant.0 c.self.view_is (λ N h. c.self.inside.state.sums.floor ≡ floor N h) c.self.invariant.0.state.keeps.sums.floor

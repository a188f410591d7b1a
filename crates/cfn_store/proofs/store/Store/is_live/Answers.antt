use Rattle.std.proofs.Common.{◌∙◌}
use Rattle.cfn_store.proofs.Stores.{agree_live}
use Rattle.cfn_store.proofs.store.Store.is_live.Goals as goal

pub returns : goal.returns
returns c = c.is_live.ensures ∙ agree_live c.self.inside.network.now c.self.inside.base c.self.inside.room c.self.inside.state c.args.self.now c.self.invariant.0 c.self.view_is c.args.x c.args.value

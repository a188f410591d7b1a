use Rattle.std.proofs.Common.{◌∙◌}
use Rattle.cfn_store.specs.Rooms.{sets_of}
use Rattle.cfn_store.proofs.Stores.{same_count, agree_live, live_sizes}
use Rattle.cfn_store.proofs.store.Store.count.Goals as goal

pub returns : goal.returns
returns c = c.count.ensures ∙ same_count c.self.inside.state.live (sets_of c.args.self.now) c.args.x (live_sizes c.self.inside.network.now c.self.inside.base c.self.inside.room c.self.inside.state c.args.self.now c.self.invariant.0 c.self.view_is) (agree_live c.self.inside.network.now c.self.inside.base c.self.inside.room c.self.inside.state c.args.self.now c.self.invariant.0 c.self.view_is)

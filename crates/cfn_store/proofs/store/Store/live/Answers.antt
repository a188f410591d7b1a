use Rattle.cfn_store.specs.Rooms.{sets_of}
use Rattle.cfn_store.proofs.Stores.{same_live, agree_live, live_sizes}
use Rattle.cfn_store.proofs.store.Store.live.Goals as goal

pub returns : goal.returns
returns c = same_live c.self.inside.state.live (sets_of c.args.self.now) c.args.x c.live.result.now (live_sizes c.self.inside.network.now c.self.inside.base c.self.inside.room c.self.inside.state c.args.self.now c.self.invariant.0 c.self.view_is) (agree_live c.self.inside.network.now c.self.inside.base c.self.inside.room c.self.inside.state c.args.self.now c.self.invariant.0 c.self.view_is) c.live.ensures

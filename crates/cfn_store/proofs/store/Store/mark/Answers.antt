use Rattle.std.proofs.Common.{arith}
use Rattle.cfn_store.proofs.Going.{mark_here}
use Rattle.cfn_store.proofs.store.Store.mark.Goals as goal

pub of-requires : goal.of-requires
of-requires c = mark_here c.self.inside.network.now c.self.inside.base c.self.inside.room c.len.result c.self.inside.state c.args.self.now c.self.invariant.0 c.self.view_is (let l = c.len.ensures in omega (arith, l))

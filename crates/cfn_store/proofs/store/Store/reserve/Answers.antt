use Rattle.std.proofs.Common.{arith}
use Rattle.cfn_store.proofs.Stores.{more_room}
use Rattle.cfn_store.proofs.store.Store.reserve.Goals as goal

pub invariant_of-self : goal.invariant_of-self
invariant_of-self c = (more_room c.self.inside.network.now c.self.inside.base c.self.inside.room c.self.inside.room c.self.inside.state c.reserve.new.self c.self.invariant.0 c.in_err-reserve.ensures.state (c.in_err-reserve.ensures.before c.self.inside.room c.self.invariant.0.room) c.in_err-reserve.ensures.trail (omega arith), c.self.invariant.1)

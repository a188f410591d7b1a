use Rattle.std.proofs.Common.{arith}
use Rattle.cfn_store.proofs.Going.{fewer, back_kept, back_view}
use Rattle.cfn_store.proofs.store.Store.undo.Goals as goal

pub go_back-requires-clause-fewer : goal.go_back-requires-clause-fewer
go_back-requires-clause-fewer c =
    let f = fewer c.self.inside.network.now c.self.inside.base c.self.inside.room c.self.inside.state c.args.self.now c.args.mark.now c.self.invariant.0 c.self.view_is c.requires in
    let a = c.places-events.ensures.all in omega (arith, f, a)

pub invariant_of-self : goal.invariant_of-self
invariant_of-self c = (back_kept c.self.inside.network.now c.self.inside.base c.self.inside.room c.places-events.result.0 c.places-events.result.1 c.self.inside.state c.go_back.new.self c.args.self.now c.args.mark.now c.self.invariant.0 c.self.view_is c.requires c.places-events.ensures c.go_back.ensures.state (c.go_back.ensures.room c.self.inside.room c.self.invariant.0.room) c.go_back.ensures.trail, c.self.invariant.1)

pub returns : goal.returns
returns c = back_view c.self.inside.network.now c.self.inside.base c.self.inside.room c.places-events.result.0 c.places-events.result.1 c.self.inside.state c.go_back.new.self c.args.self.now c.args.mark.now c.self.invariant.0 c.self.view_is c.requires c.places-events.ensures c.go_back.ensures.trail

use Rattle.std.proofs.Common.{length}
use Rattle.cfn_store.proofs.Going.{GoesBack}
use Rattle.cfn_store.proofs.state.State.go_back.Given as goal

abbrev pub invariant-loop-self : goal.invariant-loop-self
invariant-loop-self l = GoesBack l.network l.events l.initial.self l.self

abbrev pub decreases-loop-self : goal.decreases-loop-self
decreases-loop-self l = length l.self.trail.items

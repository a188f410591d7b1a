use Rattle.std.proofs.Common.{◌≡◌, ℕ, ◌++◌, length}
use Rattle.cfn_store.specs.Events.{with_first}
use Rattle.cfn_store.specs.State.{IsState, HasRoom}
use Rattle.cfn_store.proofs.state.State.go_on.Given as goal

abbrev pub invariant-loop-next : goal.invariant-loop-next
invariant-loop-next l =
    IsState l.network l.self × (l.self.trail.items ++ with_first l.next l.left ≡ l.fn.self.trail.items ++ with_first l.fn.first l.fn.others) × ((room : ℕ) → HasRoom room l.fn.self → HasRoom room l.self)

abbrev pub decreases-loop-next : goal.decreases-loop-next
decreases-loop-next l = length (with_first l.next l.left)

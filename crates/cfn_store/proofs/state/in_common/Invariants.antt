use Rattle.std.proofs.Common.{◌≡◌, ◌≤◌, ◌++◌, length, take}
use Rattle.cfn_store.specs.Events.{with_first}
use Rattle.cfn_store.proofs.state.in_common.Given as goal

abbrev pub invariant-loop-next : goal.invariant-loop-next
invariant-loop-next l = (l.common ≤ length l.trail) × (l.fn.path ≡ take l.common l.trail ++ with_first l.next l.path)

abbrev pub decreases-loop-next : goal.decreases-loop-next
decreases-loop-next l = length (with_first l.next l.path)

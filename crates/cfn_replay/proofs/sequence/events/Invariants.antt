use Rattle.std.proofs.Common.{◌≡◌, length}
use Rattle.cfn_replay.specs.Standing.{Stands}
use Rattle.cfn_replay.proofs.sequence.events.Given as goal

-- the lines so far are right, and come to a pool for which the leaves stand
abbrev pub invariant-loop-its : goal.invariant-loop-its
invariant-loop-its l = Stands l.fn.network l.lines l.leaves l.seen × (l.lines.text ≡ l.fn.lines.text)

abbrev pub decreases-loop-its : goal.decreases-loop-its
decreases-loop-its l = length l.lines.rest

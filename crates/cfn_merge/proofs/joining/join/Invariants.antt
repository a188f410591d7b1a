use Rattle.std.proofs.Common.{◌-◌}
use Rattle.cfn_merge.specs.Sources.{IsWalking}
use Rattle.cfn_merge.proofs.joining.join.Given as goal

-- the nodes before this one are made
abbrev pub invariant-loop-i : goal.invariant-loop-i
invariant-loop-i l = IsWalking l.pair.first.tree.now l.pair.second.tree.now l.walk.tree l.walk.sources.items l.i

abbrev pub decreases-loop-i : goal.decreases-loop-i
decreases-loop-i l = 4294967296 - l.i

use Rattle.std.proofs.Common.{◌-◌, length}
use Rattle.cfn_plain.proofs.trees.+strict_from.Given as goal

-- how many nodes stand from this one on
abbrev pub decreases-strict_from : goal.decreases-strict_from
decreases-strict_from l = length l.tree.now - l.id.number

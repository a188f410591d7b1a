use Rattle.std.proofs.Common.{◌-◌, length}
use Rattle.cfn_plain.proofs.trees.+bound_from.Given as goal

-- how many nodes stand from this one on
abbrev pub decreases-bound_from : goal.decreases-bound_from
decreases-bound_from l = length l.tree.now - l.id.number

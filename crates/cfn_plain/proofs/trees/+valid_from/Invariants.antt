use Rattle.std.proofs.Common.{◌-◌, length}
use Rattle.cfn_plain.proofs.trees.+valid_from.Given as goal

-- how many nodes stand from this one on
abbrev pub decreases-valid_from : goal.decreases-valid_from
decreases-valid_from l = length l.tree.now - l.id.number

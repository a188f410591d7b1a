use Rattle.std.proofs.Common.{◌+◌, length, reverse}
use Rattle.cfn_model.specs.Tree.{count}
use Rattle.cfn_proof.specs.Nodes.{tree_of}
use Rattle.cfn_leaves.specs.Walked.{IsOnWay, spots_of, spots_left, made_left}
use Rattle.cfn_leaves.proofs.walk.open_spots.Given as goal

abbrev pub invariant-loop-spot : goal.invariant-loop-spot
invariant-loop-spot l = IsOnWay l.tree (spots_of l.tree l.fn.floor) (count (tree_of l.tree)) l.walk.spots.items l.walk.made (reverse l.walk.ahead.items)

abbrev pub decreases-loop-spot : goal.decreases-loop-spot
decreases-loop-spot l = length (spots_left l.tree (reverse l.walk.ahead.items)) + made_left l.tree (reverse l.walk.ahead.items)

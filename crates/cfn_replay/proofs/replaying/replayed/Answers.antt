use Rattle.cfn_replay.proofs.Starting.{starts}
use Rattle.cfn_replay.proofs.replaying.replayed.Goals as goal

pub events-requires : goal.events-requires
events-requires c =
    starts c.args.network.now c.opening.new.lines c.in_ok-leaves.leaves c.in_ok-budget.budget c.ub.result c.in_ok-tree.tree c.in_ok-budget.ensures.right c.in_ok-tree.ensures c.ub.ensures c.in_ok-leaves.ensures.network c.in_ok-leaves.ensures.pool

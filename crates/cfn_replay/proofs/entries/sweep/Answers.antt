use Rattle.cfn_replay.proofs.Holding.{sweep_done}
use Rattle.cfn_replay.proofs.entries.sweep.Goals as goal

pub returns : goal.returns
returns c = λ P pool is sees. sweep_done P pool c.args.leaves.now c.sweep.new.self is c.sweep.ensures.network c.args.seen sees c.sweep.ensures.sweeps

use Rattle.cfn_replay.proofs.Holding.{recall_done}
use Rattle.cfn_replay.proofs.entries.recall.Goals as goal

pub returns : goal.returns
returns c = λ P pool is. recall_done P pool c.args.leaves.now c.recall.new.self is c.recall.ensures.network c.recall.ensures.recalls

use Rattle.cfn_replay.proofs.Holding.{back_answers}
use Rattle.cfn_replay.proofs.entries.back.Goals as goal

pub returns : goal.returns
returns c = λ P pool is. back_answers P pool c.args.leaves.now c.put_back.new.self is c.put_back.ensures.network c.args.worker c.args.leaf c.args.grant c.put_back.result c.put_back.ensures.back c.put_back.ensures.none

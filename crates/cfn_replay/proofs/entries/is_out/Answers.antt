use Rattle.cfn_replay.proofs.Holding.{out_there, out_held}
use Rattle.cfn_replay.proofs.entries.is_out.Goals as goal

pub returns : goal.returns
returns c = λ P pool is. (
  λ yes. out_there P pool c.args.leaves.now c.args.worker c.args.leaf c.args.grant is (c.is_out.ensures.0 yes),
  λ out. c.is_out.ensures.1 (out_held P pool c.args.leaves.now c.args.worker c.args.leaf c.args.grant is out),
)

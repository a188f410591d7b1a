use Rattle.std.proofs.Common.{sym, ◌∙◌}
use Rattle.cfn_replay.proofs.Holding.{give_done, puts_done}
use Rattle.cfn_replay.proofs.entries.give.Goals as goal

pub returns : goal.returns
returns c =
    give_done c.args.leaves.now c.put-placed.new.self c.args.worker c.args.leaf c.args.grant c.args.tree c.put-placed.ensures.network
    (puts_done c.args.leaves.now c.put-placed.new.self c.args.worker c.args.leaf c.args.grant c.args.tree c.put-placed.result (sym c.is_done.ensures ∙ c.if-not-is_done.false) c.put-placed.ensures.puts)

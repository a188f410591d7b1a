use Rattle.cfn_line.proofs.Adding.{add_failed, add_through}
use Rattle.cfn_line.proofs.waiting.Line.add.Goals as goal

pub returns-in_err-say : goal.returns-in_err-say
returns-in_err-say g c = add_failed _ c.from_residual.ensures.0 _ c.in_err-say.ensures.sent

pub returns : goal.returns
returns g c = add_through c.in_ok-say.ensures.sent c.send.ensures c.say.ensures.emptied

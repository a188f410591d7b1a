use Rattle.cfn_line.proofs.CallerLemmas.{then, stop}
use Rattle.cfn_line.proofs.word.put_both.Goals as goal

pub returns-in_err-send : goal.returns-in_err-send
returns-in_err-send g c = stop _ c.from_residual.ensures.0 _ c.in_err-send.ensures

pub returns : goal.returns
returns g c = then c.in_ok-send.ensures c.send-2.ensures

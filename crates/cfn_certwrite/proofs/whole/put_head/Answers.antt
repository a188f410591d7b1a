use Rattle.std.proofs.lemmas.List.{append-nil}
use Rattle.cfn_line.proofs.CallerLemmas.{then, stop, respell}
use Rattle.cfn_certwrite.proofs.whole.put_head.Goals as goal

pub returns-in_err-write_line : goal.returns-in_err-write_line
returns-in_err-write_line g c = stop _ c.from_residual.ensures.0 _ c.in_err-write_line.ensures

pub returns-in_err-put_network : goal.returns-in_err-put_network
returns-in_err-put_network g c = then c.in_ok-write_line.ensures (stop _ c.from_residual-in_err-put_network.ensures.0 _ c.in_err-put_network.ensures)

pub returns : goal.returns
returns g c = then c.in_ok-write_line.ensures (then c.in_ok-put_network.ensures (respell _ (append-nil _) c.write_line-2.ensures))

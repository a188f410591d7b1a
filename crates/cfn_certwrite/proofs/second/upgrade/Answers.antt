use Rattle.cfn_line.proofs.CallerLemmas.{then, stop}
use Rattle.cfn_certwrite.proofs.Upgrading.{is_upgraded}
use Rattle.cfn_certwrite.proofs.second.upgrade.Goals as goal

pub returns-in_err-write_line-clause-text : goal.returns-in_err-write_line-clause-text
returns-in_err-write_line-clause-text g c = stop _ c.from_residual.ensures.0 _ c.in_err-write_line.ensures

pub returns-in_err-write_line-clause-second : goal.returns-in_err-write_line-clause-second
returns-in_err-write_line-clause-second g c = is_upgraded c.args.text.now

pub returns-clause-text : goal.returns-clause-text
returns-clause-text g c = then c.in_ok-write_line.ensures (rw c.behind_first_line.ensures at c.send.ensures)

pub returns-clause-second : goal.returns-clause-second
returns-clause-second g c = is_upgraded c.args.text.now

use Rattle.std.proofs.lemmas.List.{append-nil}
use Rattle.cfn_line.proofs.CallerLemmas.{then, stop, respell}
use Rattle.cfn_certwrite.proofs.list_report.say_end.Goals as goal

pub returns-in_err-write_number : goal.returns-in_err-write_number
returns-in_err-write_number g c = stop _ c.from_residual.ensures.0 _ c.in_err-write_number.ensures

pub returns : goal.returns
returns g c = then c.in_ok-write_number.ensures (respell _ (append-nil _) (rw c.name_of.ensures at c.write_line.ensures))

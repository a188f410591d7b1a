use Rattle.std.proofs.lemmas.List.{append-nil}
use Rattle.cfn_line.proofs.CallerLemmas.{then, stop, respell}
use Rattle.cfn_report.proofs.report.say_solution.Goals as goal

pub returns-in_err-say_number : goal.returns-in_err-say_number
returns-in_err-say_number g c = stop _ c.from_residual.ensures.0 _ c.in_err-say_number.ensures

pub returns : goal.returns
returns g c = then c.in_ok-say_number.ensures (respell _ (append-nil _) c.write_list.ensures)

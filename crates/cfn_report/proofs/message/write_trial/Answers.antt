use Rattle.std.proofs.lemmas.List.{append-nil}
use Rattle.cfn_line.proofs.CallerLemmas.{then, stop, respell}
use Rattle.cfn_report.proofs.message.write_trial.Goals as goal

pub returns-in_err-say_number : goal.returns-in_err-say_number
returns-in_err-say_number g c = stop _ c.from_residual.ensures.0 _ (rw c.from.ensures at c.in_err-say_number.ensures)

pub returns-in_err-say_number-2 : goal.returns-in_err-say_number-2
returns-in_err-say_number-2 g c =
    then (rw c.from.ensures at c.in_ok-say_number.ensures) (stop _ c.from_residual-in_err-say_number-2.ensures.0 _ (rw c.from-2.ensures at c.in_err-say_number-2.ensures))

pub returns : goal.returns
returns g c =
    then (rw c.from.ensures at c.in_ok-say_number.ensures) (then (rw c.from-2.ensures at c.in_ok-say_number-2.ensures) (respell _ (append-nil _) c.say_number-3.ensures))

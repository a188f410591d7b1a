use Rattle.cfn_line.proofs.Adding.{add_fail, add_say}
use Rattle.cfn_line.proofs.lines.say_behind.Goals as goal

pub returns-in_err-add_behind : goal.returns-in_err-add_behind
returns-in_err-add_behind g c = add_fail _ c.from_residual.ensures.0 (rw c.new-line.ensures at c.in_err-add_behind.ensures)

pub returns : goal.returns
returns g c = add_say (rw c.new-line.ensures at c.in_ok-add_behind.ensures) c.say.ensures.sent

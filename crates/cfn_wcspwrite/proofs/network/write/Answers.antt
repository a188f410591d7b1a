use Rattle.cfn_line.proofs.CallerLemmas.{add_fail, add_say}
use Rattle.cfn_wcspwrite.proofs.network.write.Goals as goal

pub returns-in_err-add_network : goal.returns-in_err-add_network
returns-in_err-add_network g c = add_fail _ c.from_residual.ensures.0 (rw c.new-waiting.ensures at c.in_err-add_network.ensures)

pub returns : goal.returns
returns g c = add_say (rw c.new-waiting.ensures at c.in_ok-add_network.ensures) c.say.ensures.sent

use Rattle.cfn_line.proofs.CallerLemmas.{add_then, add_stop}
use Rattle.cfn_wcspwrite.proofs.network.add_name.Goals as goal

pub returns-in_err-add : goal.returns-in_err-add
returns-in_err-add g c = add_stop _ c.from_residual.ensures.0 _ c.in_err-add.ensures

pub returns : goal.returns
returns g c = add_then c.in_ok-add.ensures c.add-2.ensures

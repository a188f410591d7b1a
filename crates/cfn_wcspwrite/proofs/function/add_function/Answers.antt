use Rattle.cfn_line.proofs.CallerLemmas.{add_then, add_stop}
use Rattle.cfn_wcspwrite.proofs.function.add_function.Goals as goal

pub returns-in_err-add_first_line : goal.returns-in_err-add_first_line
returns-in_err-add_first_line g c = add_stop _ c.from_residual.ensures.0 _ c.in_err-add_first_line.ensures

pub returns : goal.returns
returns g c = add_then c.in_ok-add_first_line.ensures c.add_cells.ensures

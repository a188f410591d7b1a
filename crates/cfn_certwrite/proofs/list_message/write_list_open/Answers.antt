use Rattle.std.proofs.lemmas.List.{append-nil}
use Rattle.cfn_line.proofs.CallerLemmas.{then, stop, respell}
use Rattle.cfn_certwrite.proofs.list_message.write_list_open.Goals as goal

pub returns-in_err-write_list_verified : goal.returns-in_err-write_list_verified
returns-in_err-write_list_verified g c = stop _ c.from_residual.ensures.0 _ c.in_err-write_list_verified.ensures

pub returns : goal.returns
returns g c = then c.in_ok-write_list_verified.ensures (respell _ (append-nil _) c.write_line.ensures)

use Rattle.std.proofs.Common.{◌∙◌}
use Rattle.std.proofs.lemmas.List.{append-nil}
use Rattle.cfn_line.proofs.CallerLemmas.{then, stop, respell}
use Rattle.cfn_certwrite.proofs.ListLines.{best_line}
use Rattle.cfn_certwrite.proofs.list.put_head.Goals as goal

pub returns-in_err-write_line : goal.returns-in_err-write_line
returns-in_err-write_line g c = stop _ c.from_residual.ensures.0 _ c.in_err-write_line.ensures

pub returns-in_err-put_network : goal.returns-in_err-put_network
returns-in_err-put_network g c = then c.in_ok-write_line.ensures (stop _ c.from_residual-in_err-put_network.ensures.0 _ c.in_err-put_network.ensures)

pub returns-in_err-write_number : goal.returns-in_err-write_number
returns-in_err-write_number g c = then c.in_ok-write_line.ensures (then c.in_ok-put_network.ensures (stop _ c.from_residual-in_err-write_number.ensures.0 _ c.in_err-write_number.ensures))

pub returns-in_err-write_number-2 : goal.returns-in_err-write_number-2
returns-in_err-write_number-2 g c =
    then c.in_ok-write_line.ensures (then c.in_ok-put_network.ensures (then c.in_ok-write_number.ensures (stop _ c.from_residual-in_err-write_number-2.ensures.0 _ c.in_err-write_number-2.ensures)))

pub returns : goal.returns
returns g c =
    then c.in_ok-write_line.ensures (then c.in_ok-put_network.ensures (then c.in_ok-write_number.ensures (then c.in_ok-write_number-2.ensures (respell _ (append-nil _ ∙ best_line c.args.certificate.now.list.items) (rw c.deref-list.ensures.value at c.write_number-3.ensures)))))

use Rattle.std.proofs.Common.{◌-◌, length, arith}
use Rattle.cfn_line.proofs.CallerLemmas.{add_then, add_stop}
use Rattle.cfn_wcspwrite.proofs.Parts.{add_respell, sizes-parts}
use Rattle.cfn_wcspwrite.proofs.network.add_sizes.Goals as goal

pub returns-in_err-add_numbers : goal.returns-in_err-add_numbers
returns-in_err-add_numbers g c =
    add_respell (sizes-parts c.args.sizes.now (length c.args.sizes.now - 1) (omega (arith, c.requires)))
    (add_stop _ c.from_residual.ensures.0 _ c.in_err-add_numbers.ensures)

pub returns : goal.returns
returns g c =
    add_respell (sizes-parts c.args.sizes.now (length c.args.sizes.now - 1) (omega (arith, c.requires)))
    (add_then c.in_ok-add_numbers.ensures (rw c.from.ensures at c.add_number.ensures))

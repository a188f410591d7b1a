use Rattle.cfn_line.proofs.CallerLemmas.{add_then, add_stop}
use Rattle.cfn_wcspwrite.proofs.Parts.{add_respell, network-parts}
use Rattle.cfn_wcspwrite.proofs.network.add_network.Goals as goal

pub returns-in_err-add_head : goal.returns-in_err-add_head
returns-in_err-add_head g c = add_respell (network-parts c.args.network.now) (add_stop _ c.from_residual.ensures.0 _ c.in_err-add_head.ensures)

pub returns-in_err-add_sizes : goal.returns-in_err-add_sizes
returns-in_err-add_sizes g c = add_respell (network-parts c.args.network.now) (add_then c.in_ok-add_head.ensures (add_stop _ c.from_residual-in_err-add_sizes.ensures.0 _ (rw c.sizes.ensures at c.in_err-add_sizes.ensures)))

pub returns : goal.returns
returns g c = add_respell (network-parts c.args.network.now) (add_then c.in_ok-add_head.ensures (add_then (rw c.sizes.ensures at c.in_ok-add_sizes.ensures) c.add_functions.ensures))

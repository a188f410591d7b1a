use Rattle.std.proofs.Common.{length}
use Rattle.std.specs.Prelude.{fold, max}
use Rattle.cfn_line.proofs.CallerLemmas.{add_then, add_stop}
use Rattle.cfn_wcspwrite.proofs.Parts.{add_respell, head-parts}
use Rattle.cfn_wcspwrite.proofs.network.add_head.Goals as goal

pub returns-in_err-add_name : goal.returns-in_err-add_name
returns-in_err-add_name g c =
    let P = c.args.network.now in
    add_respell (head-parts P.name (length P.sizes) (fold max 0 P.sizes) (length P.functions) P.upper)
    (add_stop _ c.from_residual.ensures.0 _ (rw c.name.ensures at c.in_err-add_name.ensures))

pub returns-in_err-add_numbers : goal.returns-in_err-add_numbers
returns-in_err-add_numbers g c =
    let P = c.args.network.now in
    add_respell (head-parts P.name (length P.sizes) (fold max 0 P.sizes) (length P.functions) P.upper)
    (add_then (rw c.name.ensures at c.in_ok-add_name.ensures) (add_stop _ c.from_residual-in_err-add_numbers.ensures.0 _ (rw (c.variables.ensures, c.greatest.ensures, c.functions.ensures, c.sizes.ensures) at c.in_err-add_numbers.ensures)))

pub returns : goal.returns
returns g c =
    let P = c.args.network.now in
    add_respell (head-parts P.name (length P.sizes) (fold max 0 P.sizes) (length P.functions) P.upper)
    (add_then (rw c.name.ensures at c.in_ok-add_name.ensures) (add_then (rw (c.variables.ensures, c.greatest.ensures, c.functions.ensures, c.sizes.ensures) at c.in_ok-add_numbers.ensures) (rw c.ub.ensures at c.add_number.ensures)))

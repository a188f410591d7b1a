use Rattle.std.proofs.Common.{length}
use Rattle.cfn_model.specs.Network.{function_at}
use Rattle.cfn_wcspwrite.specs.Canonical.{listed}
use Rattle.cfn_line.proofs.CallerLemmas.{add_then, add_stop}
use Rattle.cfn_wcspwrite.proofs.Parts.{add_respell, first-parts}
use Rattle.cfn_wcspwrite.proofs.function.add_first_line.Goals as goal

pub returns-in_err-add_number : goal.returns-in_err-add_number
returns-in_err-add_number g c =
    let f = function_at c.args.network.now c.args.f in
    add_respell (first-parts (length f.scope) f.scope f.default (length (listed f)))
    (add_stop _ c.from_residual.ensures.0 _ (rw c.scope-scope.ensures at c.in_err-add_number.ensures))

pub returns-in_err-add_numbers : goal.returns-in_err-add_numbers
returns-in_err-add_numbers g c =
    let f = function_at c.args.network.now c.args.f in
    add_respell (first-parts (length f.scope) f.scope f.default (length (listed f)))
    (add_then (rw c.scope-scope.ensures at c.in_ok-add_number.ensures)
    (add_stop _ c.from_residual-in_err-add_numbers.ensures.0 _ (rw c.scope-scope.ensures at c.in_err-add_numbers.ensures)))

pub returns-in_err-add_number-2 : goal.returns-in_err-add_number-2
returns-in_err-add_number-2 g c =
    let f = function_at c.args.network.now c.args.f in
    add_respell (first-parts (length f.scope) f.scope f.default (length (listed f)))
    (add_then (rw c.scope-scope.ensures at c.in_ok-add_number.ensures) (add_then (rw c.scope-scope.ensures at c.in_ok-add_numbers.ensures)
    (add_stop _ c.from_residual-in_err-add_number-2.ensures.0 _ (rw c.default.ensures at c.in_err-add_number-2.ensures))))

pub returns : goal.returns
returns g c =
    let f = function_at c.args.network.now c.args.f in
    add_respell (first-parts (length f.scope) f.scope f.default (length (listed f)))
    (add_then (rw c.scope-scope.ensures at c.in_ok-add_number.ensures) (add_then (rw c.scope-scope.ensures at c.in_ok-add_numbers.ensures)
    (add_then (rw c.default.ensures at c.in_ok-add_number-2.ensures) (rw (c.from.ensures, c.count.ensures) at c.add_number-3.ensures))))

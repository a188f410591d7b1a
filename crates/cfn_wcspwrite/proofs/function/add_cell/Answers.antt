use Rattle.std.proofs.Common.{sym, ◌∙◌}
use Rattle.cfn_line.proofs.CallerLemmas.{add_then, add_stop}
use Rattle.cfn_wcspwrite.proofs.Parts.{add_respell, cell-line}
use Rattle.cfn_model.specs.Network.{function_at}
use Rattle.cfn_wcspwrite.proofs.function.add_cell.Goals as goal

pub returns-in_err-add_tuple : goal.returns-in_err-add_tuple
returns-in_err-add_tuple g c =
    add_respell (cell-line c.args.network.now.sizes (function_at c.args.network.now c.args.f) c.args.cell (λ e. c.if-entry-default.false (c.entry-entry.ensures ∙ e ∙ sym c.default.ensures)))
    (add_stop _ c.from_residual.ensures.0 _ (rw c.scope.ensures at c.in_err-add_tuple.ensures))

pub returns : goal.returns
returns g c =
    add_respell (cell-line c.args.network.now.sizes (function_at c.args.network.now c.args.f) c.args.cell (λ e. c.if-entry-default.false (c.entry-entry.ensures ∙ e ∙ sym c.default.ensures)))
    (add_then (rw c.scope.ensures at c.in_ok-add_tuple.ensures) (rw c.entry-entry.ensures at c.add_number.ensures))

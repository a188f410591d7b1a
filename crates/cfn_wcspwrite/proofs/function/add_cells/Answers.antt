use Rattle.std.proofs.Common.{◌++◌, ap}
use Rattle.cfn_model.specs.Network.{function_at}
use Rattle.cfn_line.proofs.CallerLemmas.{add_on, add_break}
use Rattle.cfn_wcspwrite.proofs.Parts.{add_respell, cells-are, lines-left, listed-to}
use Rattle.cfn_wcspwrite.proofs.function.add_cells.Goals as goal

pub returns-in_err-add_cell : goal.returns-in_err-add_cell
returns-in_err-add_cell g c =
    add_respell ((listed-to c.args.network.now.sizes (function_at c.args.network.now c.args.f) c.cells-cell-end.result (cells-are c.args.network.now c.law_limits.ensures c.args.f _ c.requires c.cells-cell-end.ensures)))
    (add_break _ c.from_residual.ensures.0 _ (ap (λ t. c.loop-cell.into ++ t) (lines-left c.args.network.now.sizes (function_at c.args.network.now c.args.f) c.loop-cell.cell c.cells-cell-end.result c.loop-cell-test.true)) c.loop-cell.invariant c.in_err-add_cell.ensures)

pub loop-cell-preserved : goal.loop-cell-preserved
loop-cell-preserved g c =
    add_on _ (ap (λ t. c.loop-cell.into ++ t) (lines-left c.args.network.now.sizes (function_at c.args.network.now c.args.f) c.loop-cell.cell c.cells-cell-end.result c.loop-cell-test.true)) c.loop-cell.invariant c.in_ok-add_cell.ensures

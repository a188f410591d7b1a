use Rattle.std.proofs.Common.{sym, ◌∙◌, arith}
use Rattle.cfn_model.specs.Network.{function_at}
use Rattle.cfn_wcspwrite.proofs.Parts.{count-more, count-same}
use Rattle.cfn_wcspwrite.proofs.function.count.Goals.{then-entry-default, else-entry-default}
use Rattle.cfn_wcspwrite.proofs.function.count.Goals as goal

pub loop-cell-preserved : goal.loop-cell-preserved
loop-cell-preserved c =
    let f = function_at c.args.network.now c.args.f in
    elim c.if-entry-default.branch [
      | then-entry-default w ↦ record {
        few = omega (arith, w.count-is);
        rest =
            count-more f c.loop-cell.cell c.cells-cell-end.result c.loop-cell.count _ _ c.loop-cell-test.true w.count-is
            (λ e. w.if-entry-default.true (c.entry.ensures ∙ e ∙ sym c.default.ensures)) c.loop-cell.invariant.rest;
      }
      | else-entry-default w ↦ record {
        few = omega (arith, w.count-is);
        rest =
            count-same f c.loop-cell.cell c.cells-cell-end.result c.loop-cell.count _ _ c.loop-cell-test.true w.count-is
            (sym c.entry.ensures ∙ w.if-entry-default.false ∙ c.default.ensures) c.loop-cell.invariant.rest;
      }
    ]

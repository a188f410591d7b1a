use Rattle.cfn_model.specs.Text.{row_words}
use Rattle.cfn_line.proofs.CallerLemmas.{go_on, halt}
use Rattle.cfn_line.proofs.CallerLemmas.{text-drop}
use Rattle.cfn_report.proofs.report.say_rows.Goals as goal

pub returns-in_err-say_row : goal.returns-in_err-say_row
returns-in_err-say_row g c =
    halt _ c.from_residual.ensures.0 _ (text-drop row_words c.args.rows.now c.loop-row.row-index _ c.loop-row-test.true) c.loop-row.invariant c.in_err-say_row.ensures

pub loop-row-preserved : goal.loop-row-preserved
loop-row-preserved g c =
    go_on _ (text-drop row_words c.args.rows.now c.loop-row.row-index _ c.loop-row-test.true) c.loop-row.invariant c.in_ok-say_row.ensures

use Rattle.cfn_line.proofs.CallerLemmas.{go_on, halt}
use Rattle.cfn_certwrite.proofs.RecordLines.{entry_left}
use Rattle.cfn_certwrite.proofs.entries.put_entries.Goals as goal

pub returns-in_err-put_entry : goal.returns-in_err-put_entry
returns-in_err-put_entry g c =
    halt _ c.from_residual.ensures.0 _ (entry_left c.args.happened.now c.loop-done.done-index _ c.done-item.is c.loop-done-test.true) c.loop-done.invariant c.in_err-put_entry.ensures

pub loop-done-preserved : goal.loop-done-preserved
loop-done-preserved g c =
    go_on _ (entry_left c.args.happened.now c.loop-done.done-index _ c.done-item.is c.loop-done-test.true) c.loop-done.invariant c.in_ok-put_entry.ensures

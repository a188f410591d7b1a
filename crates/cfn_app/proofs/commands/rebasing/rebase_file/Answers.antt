use denote.Param.Send.{sendable}
use Rattle.cfn_explore.proofs.CallerLemmas.{deadline_sync}
use Rattle.cfn_app.specs.Runs.Rebasing.{goes_on, unpaired}
use Rattle.cfn_app.proofs.commands.rebasing.rebase_file.Goals as goal

pub go_on-requires-sync-H : goal.go_on-requires-sync-H
go_on-requires-sync-H g c κs within = search (sendable, deadline_sync) depth 40

pub returns-in-Ok : goal.returns-in-Ok
returns-in-Ok g c =
    goes_on c.in-Ok.pair.network c.in-Ok.pair.text.items _ (rw (c.as_str.ensures.value, c.as_str-2.ensures.value) at c.in-Ok.ensures.paired)
    (rw c.deref.ensures.value at c.go_on.ensures)

pub returns-in-Err : goal.returns-in-Err
returns-in-Err g c = unpaired c.load_pair.ensures.files (rw (c.as_str.ensures.value, c.as_str-2.ensures.value) at c.in-Err.ensures.unpaired)

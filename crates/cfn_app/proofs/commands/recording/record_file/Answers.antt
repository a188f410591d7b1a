use denote.Param.Send.{sendable}
use Rattle.cfn_explore.proofs.CallerLemmas.{deadline_sync}
use Rattle.cfn_cli.specs.Request.Recording.{spoken_recorded}
use Rattle.cfn_app.proofs.Recordings.{records_read, records_unread}
use Rattle.cfn_app.proofs.commands.recording.record_file.Goals as goal

pub begin_and_record-requires-sync-H : goal.begin_and_record-requires-sync-H
begin_and_record-requires-sync-H g c κs within = search (sendable, deadline_sync) depth 40

pub returns-in-Ok-read_bytes : goal.returns-in-Ok-read_bytes
returns-in-Ok-read_bytes g c =
    records_read (spoken_recorded c.args.ask.now) _ _ _ _ c.in-Ok.bytes.items
    (rw c.as_str.ensures.value at c.in-Ok.ensures.has) (rw c.as_str.ensures.value at c.in-Ok.ensures.loaded)
    _ c.in-Ok-read_bytes.network (rw c.deref.ensures.value at c.in-Ok-read_bytes.ensures.reads) c.in-Ok-read_bytes.ensures.same c.begin_and_record.ensures

pub returns : goal.returns
returns g c =
    records_unread (spoken_recorded c.args.ask.now) _ _ _ _ c.in-Ok.bytes.items
    (rw c.as_str.ensures.value at c.in-Ok.ensures.has) (rw c.as_str.ensures.value at c.in-Ok.ensures.loaded)
    c.read_bytes.ensures.files (rw c.deref.ensures.value at c.in-Err-read_bytes.ensures.unread)

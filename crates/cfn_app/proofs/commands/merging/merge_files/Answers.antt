use Rattle.cfn_cli.specs.Request.Merging.{spoken_merge}
use Rattle.cfn_app.proofs.Merges.{merges_read, merges_unread}
use Rattle.cfn_app.proofs.commands.merging.merge_files.Goals as goal

pub returns-in-Ok-read_bytes : goal.returns-in-Ok-read_bytes
returns-in-Ok-read_bytes g c =
    merges_read (spoken_merge c.args.ask.now) _ _ _ _ c.in-Ok.bytes.items
    (rw c.as_str.ensures.value at c.in-Ok.ensures.has) (rw c.as_str.ensures.value at c.in-Ok.ensures.loaded)
    _ c.in-Ok-read_bytes.network (rw c.deref.ensures.value at c.in-Ok-read_bytes.ensures.reads) c.in-Ok-read_bytes.ensures.same
    (rw (c.deref-in-Ok-read_bytes.ensures.value, c.as_str-in-Ok-read_bytes.ensures.value) at c.merge_into.ensures)

pub returns : goal.returns
returns g c =
    merges_unread (spoken_merge c.args.ask.now) _ _ _ _ c.in-Ok.bytes.items
    (rw c.as_str.ensures.value at c.in-Ok.ensures.has) (rw c.as_str.ensures.value at c.in-Ok.ensures.loaded)
    c.read_bytes.ensures.files (rw c.deref.ensures.value at c.in-Err-read_bytes.ensures.unread)

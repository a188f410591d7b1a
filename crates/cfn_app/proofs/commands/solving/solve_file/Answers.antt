use Rattle.cfn_cli.specs.Request.Solving.{spoken_solve}
use Rattle.cfn_app.proofs.Ends.{solves_read, solves_unread}
use denote.Param.Send.{sendable}
use Rattle.cfn_explore.proofs.CallerLemmas.{deadline_sync}
use Rattle.cfn_app.proofs.commands.solving.solve_file.Goals as goal

pub begin_and_search-requires-sync-H : goal.begin_and_search-requires-sync-H
begin_and_search-requires-sync-H g c κs within = search (sendable, deadline_sync) depth 40

pub returns-in-Ok-read_bytes : goal.returns-in-Ok-read_bytes
returns-in-Ok-read_bytes g c =
    solves_read _ _ _ _ _ (spoken_solve c.args.ask.now) c.in-Ok.bytes.items c.in-Ok-read_bytes.network
    (rw c.as_str.ensures.value at c.in-Ok.ensures.has) (rw c.as_str.ensures.value at c.in-Ok.ensures.loaded)
    (rw c.deref.ensures.value at c.in-Ok-read_bytes.ensures.reads) c.in-Ok-read_bytes.ensures.same c.begin_and_search.ensures

pub returns : goal.returns
returns g c =
    solves_unread _ _ _ _ (spoken_solve c.args.ask.now) c.in-Ok.bytes.items
    (rw c.as_str.ensures.value at c.in-Ok.ensures.has) (rw c.as_str.ensures.value at c.in-Ok.ensures.loaded)
    c.read_bytes.ensures.files (rw c.deref.ensures.value at c.in-Err-read_bytes.ensures.unread)

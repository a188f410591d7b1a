use Rattle.cfn_cli.specs.Request.Listing.{spoken_k_best}
use Rattle.cfn_app.proofs.Lists.{lists_read, lists_unread}
use Rattle.cfn_app.proofs.commands.listing.list_file.Goals as goal

pub returns-in-Ok-read_bytes : goal.returns-in-Ok-read_bytes
returns-in-Ok-read_bytes g c =
    lists_read _ _ _ _ _ (spoken_k_best c.args.ask.now) c.in-Ok.bytes.items c.in-Ok-read_bytes.network
    (rw c.as_str.ensures.value at c.in-Ok.ensures.has) (rw c.as_str.ensures.value at c.in-Ok.ensures.loaded)
    (rw c.deref.ensures.value at c.in-Ok-read_bytes.ensures.reads) c.in-Ok-read_bytes.ensures.same c.open_and_list.ensures

pub returns : goal.returns
returns g c =
    lists_unread _ _ _ _ (spoken_k_best c.args.ask.now) c.in-Ok.bytes.items
    (rw c.as_str.ensures.value at c.in-Ok.ensures.has) (rw c.as_str.ensures.value at c.in-Ok.ensures.loaded)
    c.read_bytes.ensures.files (rw c.deref.ensures.value at c.in-Err-read_bytes.ensures.unread)

use Rattle.cfn_cli.specs.Request.Normalizing.{spoken_normal}
use Rattle.cfn_app.proofs.Ends.{normalizes_read, normalizes_unread}
use Rattle.cfn_app.proofs.commands.normalizing.normalize_file.Goals as goal

pub returns-in-Ok-read_bytes-clause-ends : goal.returns-in-Ok-read_bytes-clause-ends
returns-in-Ok-read_bytes-clause-ends g c =
    normalizes_read _ _ _ _ _ (spoken_normal c.args.ask.now) c.in-Ok.bytes.items c.in-Ok-read_bytes.network
    (rw c.as_str.ensures.value at c.in-Ok.ensures.has) (rw c.as_str.ensures.value at c.in-Ok.ensures.loaded)
    (rw c.deref.ensures.value at c.in-Ok-read_bytes.ensures.reads) c.say_normal.ensures.again c.in-Ok-read_bytes.ensures.same
    c.say_normal.ensures.ends

pub returns-clause-ends : goal.returns-clause-ends
returns-clause-ends g c =
    normalizes_unread _ _ _ _ (spoken_normal c.args.ask.now) c.in-Ok.bytes.items
    (rw c.as_str.ensures.value at c.in-Ok.ensures.has) (rw c.as_str.ensures.value at c.in-Ok.ensures.loaded)
    (rw c.deref.ensures.value at c.in-Err-read_bytes.ensures.unread)

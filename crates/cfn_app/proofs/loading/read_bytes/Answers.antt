use Rattle.cfn_app.proofs.Ends.{reads_as, unread_by}
use Rattle.cfn_app.proofs.loading.read_bytes.Goals as goal

pub returns-in-Ok-clause-reads : goal.returns-in-Ok-clause-reads
returns-in-Ok-clause-reads g c = reads_as c.args.format c.args.bytes.now c.in-Ok.network (rw c.in-Ok.is at c.read_as.ensures)

pub returns-in-Err-clause-unread : goal.returns-in-Err-clause-unread
returns-in-Err-clause-unread g c =
    unread_by c.args.format c.args.bytes.now c.in-Err.fault _ _ _ (rw c.in-Err.is at c.read_as.ensures) c.say_unread.ensures.ends

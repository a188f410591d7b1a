use Rattle.cfn_cli.specs.Request.Costing.{spoken_cost}
use Rattle.cfn_app.proofs.Ends.{costs_priced, costs_unread}
use Rattle.cfn_app.proofs.commands.costing.cost_file.Goals as goal

pub returns-in-Ok-read_bytes-clause-ends : goal.returns-in-Ok-read_bytes-clause-ends
returns-in-Ok-read_bytes-clause-ends g c =
    costs_priced _ _ _ _ _ (spoken_cost c.args.ask.now) c.in-Ok.bytes.items c.in-Ok-read_bytes.network
    (rw c.as_str.ensures.value at c.in-Ok.ensures.has) (rw c.as_str.ensures.value at c.in-Ok.ensures.loaded)
    (rw c.deref.ensures.value at c.in-Ok-read_bytes.ensures.reads) c.in-Ok-read_bytes.ensures.same
    (rw c.as_slice.ensures.value at c.say_cost.ensures.ends)

pub returns-clause-ends : goal.returns-clause-ends
returns-clause-ends g c =
    costs_unread _ _ _ _ (spoken_cost c.args.ask.now) c.in-Ok.bytes.items
    (rw c.as_str.ensures.value at c.in-Ok.ensures.has) (rw c.as_str.ensures.value at c.in-Ok.ensures.loaded)
    (rw c.deref.ensures.value at c.in-Err-read_bytes.ensures.unread)

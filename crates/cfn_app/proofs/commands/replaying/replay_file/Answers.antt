use Rattle.cfn_app.specs.Runs.Replaying.{runs, unpaired}
use Rattle.cfn_app.proofs.commands.replaying.replay_file.Goals as goal

pub returns-in-Ok : goal.returns-in-Ok
returns-in-Ok g c =
    runs c.in-Ok.pair.network c.in-Ok.pair.text.items _ (rw (c.as_str.ensures.value, c.as_str-2.ensures.value) at c.in-Ok.ensures.paired)
    (rw (c.deref.ensures.value, c.as_str-in-Ok.ensures.value) at c.run_again.ensures)

pub returns-in-Err : goal.returns-in-Err
returns-in-Err g c = unpaired c.load_pair.ensures.files (rw (c.as_str.ensures.value, c.as_str-2.ensures.value) at c.in-Err.ensures.unpaired)

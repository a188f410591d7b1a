use Rattle.cfn_app.specs.Runs.CheckingBest.{judged, unpaired}
use Rattle.cfn_app.proofs.commands.checking_best.check_best_file.Goals as goal

pub returns-in-Ok-clause-ends : goal.returns-in-Ok-clause-ends
returns-in-Ok-clause-ends g c =
    judged c.in-Ok.pair.network c.in-Ok.pair.text.items _ (rw (c.as_str.ensures.value, c.as_str-2.ensures.value) at c.in-Ok.ensures.paired)
    (rw c.deref.ensures.value at c.judge.ensures.ends)

pub returns-in-Err-clause-ends : goal.returns-in-Err-clause-ends
returns-in-Err-clause-ends g c = unpaired (rw (c.as_str.ensures.value, c.as_str-2.ensures.value) at c.in-Err.ensures.unpaired)

use Rattle.std.proofs.Common.{refl}
use Rattle.cfn_app.proofs.Ends.{ends_saying}
use Rattle.cfn_app.proofs.output.say_report.Goals as goal

pub returns-clause-ends : goal.returns-clause-ends
returns-clause-ends g c =
    ends_saying _ _ _ _ c.write.result _ _ refl (rw c.result_word-word.ensures at (rw c.deref.ensures.value at c.write.ensures))
    (rw c.result_word-word.ensures at (rw c.status.ensures at c.ending.ensures))

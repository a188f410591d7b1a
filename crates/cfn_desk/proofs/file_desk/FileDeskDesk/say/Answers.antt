-- What is said changes nothing of the file being written.
use Rattle.std.proofs.Common.{◌≡◌, ℕ, List, Result, Ok, Err, refl}
use Rattle.cfn_desk.specs.Outside.{Call, after_say, written}
use Rattle.cfn_desk.proofs.CallerLemmas.{written-says}
use Rattle.cfn_desk.proofs.file_desk.FileDeskDesk.say.Goals as goal

written-after_say : {T E : Type 0} (answer : Result T E) (piece : List ℕ) (calls : List Call) → written (after_say piece answer calls) ≡ written calls
written-after_say (Ok x) piece calls = written-says piece calls
written-after_say (Err x) piece calls = refl

pub invariant_of-self : goal.invariant_of-self
invariant_of-self g c =
    rw (c.say.ensures, written-after_say c.match-write_all.answer c.args.bytes.now c.self.inside.trace.calls) c.self.invariant

use Rattle.cfn_due.specs.Resting.{AreDoubted}
use Rattle.cfn_due.proofs.Doubting.{IsAmong}
use Rattle.cfn_due.proofs.rests.Rests.doubt_on.Given as goal

abbrev pub invariant-loop-place : goal.invariant-loop-place
invariant-loop-place l = AreDoubted l.initial.self l.self (IsAmong l.place-items l.place-index)

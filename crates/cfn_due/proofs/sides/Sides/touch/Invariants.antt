use Rattle.cfn_due.specs.Siding.{AreAsked}
use Rattle.cfn_due.proofs.Asking.{IsBeside}
use Rattle.cfn_due.proofs.sides.Sides.touch.Given as goal

abbrev pub invariant-loop-place : goal.invariant-loop-place
invariant-loop-place l = AreAsked l.incidence l.initial.self l.self (IsBeside l.place-items l.place-index)

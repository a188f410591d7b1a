use Rattle.std.proofs.Common.{◌-◌, take, drop}
use Rattle.cfn_due.specs.Siding.{AreAsked}
use Rattle.cfn_due.proofs.Asking.{GoesWithSteps}
use Rattle.cfn_due.proofs.sides.Sides.note_steps.Given as goal

abbrev pub invariant-loop-i : goal.invariant-loop-i
invariant-loop-i l = AreAsked l.incidence l.initial.self l.self (GoesWithSteps l.incidence (take (l.i - l.start) (drop l.start l.store.block)))

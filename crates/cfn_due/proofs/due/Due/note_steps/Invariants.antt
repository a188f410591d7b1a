use Rattle.std.proofs.Common.{◌-◌, take, drop}
use Rattle.cfn_due.specs.Going.{AreNoted}
use Rattle.cfn_due.specs.Remembered.{IsLast}
use Rattle.cfn_due.proofs.due.Due.note_steps.Given as goal

abbrev pub invariant-loop-i : goal.invariant-loop-i
invariant-loop-i l = record {
  noted : AreNoted l.store.network (take (l.i - l.start) (drop l.start l.store.block)) l.initial.self l.self;
  last : IsLast l.store.network l.last l.self;
}

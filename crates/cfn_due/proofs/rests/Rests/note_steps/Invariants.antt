use Rattle.std.proofs.Common.{◌-◌, take, drop}
use Rattle.std.specs.Prelude.{IfSome}
use Rattle.cfn_due.specs.Going.{GoesFull, GoesWithOne}
use Rattle.cfn_due.specs.Resting.{AreDoubted, IsDoubted}
use Rattle.cfn_due.proofs.rests.Rests.note_steps.Given as goal

abbrev pub invariant-loop-i : goal.invariant-loop-i
invariant-loop-i l = record {
  doubted : AreDoubted l.initial.self l.self (GoesWithOne (GoesFull l.store.network) (take (l.i - l.start) (drop l.start l.store.block)));
  last : IfSome l.last (IsDoubted l.store.network l.self);
}

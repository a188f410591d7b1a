use Rattle.std.proofs.Common.{◌≡◌}
use Rattle.cfn_due.specs.Dues.{waiting}
use Rattle.cfn_edac.specs.Revising.{HoldsIn, IsSureIn, IsKnownIn}
use Rattle.cfn_edac.proofs.reviser.Reviser.revise_until_step.Given as goal

abbrev pub invariant-loop-next : goal.invariant-loop-next
invariant-loop-next l = record {
  store : l.store ≡ l.initial.store;
  network : l.self.network ≡ l.initial.self.network;
  holds : HoldsIn l.store l.self.due;
  sure : IsSureIn l.store l.self.rests;
  known : IsKnownIn l.store l.self.sides;
}

abbrev pub decreases-loop-next : goal.decreases-loop-next
decreases-loop-next l = waiting l.self.due

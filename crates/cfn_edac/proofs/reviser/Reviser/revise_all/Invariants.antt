use Rattle.std.proofs.Common.{◌≡◌, ◌-◌, length}
use Rattle.cfn_gain.specs.Calls.{Passing}
use Rattle.cfn_gain.specs.Gains.{Gained}
use Rattle.cfn_edac.specs.Revising.{HoldsIn, IsSureIn, IsKnownIn}
use Rattle.cfn_edac.proofs.reviser.Reviser.revise_all.Given as goal

abbrev pub invariant-loop-store : goal.invariant-loop-store
invariant-loop-store l = record {
  passing : Passing l.initial.store l.store l.limits (Unit {0});
  gained : Gained l.initial.store l.store;
  network : l.self.network ≡ l.initial.self.network;
  holds : HoldsIn l.store l.self.due;
  sure : IsSureIn l.store l.self.rests;
  known : IsKnownIn l.store l.self.sides;
}

abbrev pub decreases-loop-store : goal.decreases-loop-store
decreases-loop-store l = l.limits.steps - length l.store.block

use Rattle.std.proofs.Common.{◌≡◌, length}
use Rattle.cfn_store.specs.Standing.{history}
use Rattle.cfn_vac.proofs.Walking.{IsWalking}
use Rattle.cfn_vac.proofs.walk.walk.Given as goal

abbrev pub invariant-loop-deletion : goal.invariant-loop-deletion
invariant-loop-deletion l = record {
  network : l.plan.network ≡ l.initial.plan.network;
  same : l.store ≡ l.initial.store;
  walking : IsWalking l.initial.plan.network (history l.initial.store) l.q l.deletions l.left l.initial.plan.steps l.plan.steps;
}

abbrev pub decreases-loop-deletion : goal.decreases-loop-deletion
decreases-loop-deletion l = length l.left

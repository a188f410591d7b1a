use Rattle.std.proofs.Common.{◌≡◌, ◌+◌, ◌-◌, ◌*◌}
use Rattle.cfn_model.specs.Sums.{floor}
use Rattle.cfn_store.specs.Standing.{history}
use Rattle.cfn_gain.specs.Calls.{Adds}
use Rattle.cfn_derivation.specs.Watched.{IsWatched}
use Rattle.cfn_vac.specs.Roots.{IsReady, HasLifted}
use Rattle.cfn_vac.proofs.vac.RootVac.raise_at.Given as goal

abbrev pub invariant-loop-blocks : goal.invariant-loop-blocks
invariant-loop-blocks g l = record {
  network : l.self.network ≡ l.initial.self.network;
  adds : Adds l.initial.store l.store l.limits;
  lifts : HasLifted l.initial.self.network l.initial.store l.store;
  ready : IsReady l.initial.self.network l.store l.limits;
  watch : IsWatched l.initial.self.network (history l.store) l.self.watch l.q;
}

abbrev pub decreases-loop-blocks : goal.decreases-loop-blocks
decreases-loop-blocks g l = (l.limits.threshold - floor l.fn.self.network (history l.store)) * 1025 + (1024 - l.blocks)

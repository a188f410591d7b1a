use Rattle.std.proofs.Common.{◌≡◌, ◌<◌}
use Rattle.cfn_store.specs.Standing.{history}
use Rattle.cfn_gain.specs.Calls.{Adds}
use Rattle.cfn_derivation.specs.Banned.{bans_of, NoneBanned}
use Rattle.cfn_derivation.specs.Watched.{IsWatched}
use Rattle.cfn_vac.specs.Roots.{IsReady, HasLifted}
use Rattle.cfn_vac.proofs.vac.RootVac.halve.Given as goal

abbrev pub invariant-loop-limits : goal.invariant-loop-limits
invariant-loop-limits g l = record {
  network : l.self.network ≡ l.initial.self.network;
  some : 0 < l.q;
  adds : Adds l.initial.store l.store l.limits;
  lifts : HasLifted l.fn.self.network l.fn.store l.store;
  ready : IsReady l.initial.self.network l.store l.limits;
  watch : IsWatched l.initial.self.network (history l.store) l.self.watch l.q;
  none : NoneBanned l.initial.self.network (bans_of l.self.bans);
}

abbrev pub decreases-loop-limits : goal.decreases-loop-limits
decreases-loop-limits g l = l.q

use Rattle.std.proofs.Common.{◌≤◌, ◌-◌}
use Rattle.std.specs.Prelude.{slice_index}
use Rattle.cfn_model.specs.Network.{variable_at}
use Rattle.cfn_store.specs.Doubts.{AreFreeBetween}
use Rattle.cfn_store.specs.Standing.{history}
use Rattle.cfn_store.proofs.store.Store.lacking_along.Given as goal

abbrev pub invariant-loop-doubt : goal.invariant-loop-doubt
invariant-loop-doubt l = record {
  behind : l.initial.from ≤ l.from;
  passed : AreFreeBetween l.self.network (history l.self) l.f l.place l.initial.from l.from;
}

abbrev pub decreases-loop-doubt : goal.decreases-loop-doubt
decreases-loop-doubt l = slice_index l.self.network.sizes (variable_at l.self.network l.f l.place) - l.from

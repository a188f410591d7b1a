use Rattle.std.proofs.Common.{◌≤◌, ◌-◌}
use Rattle.std.specs.Prelude.{slice_index}
use Rattle.cfn_store.specs.Doubts.{AreFreeBetween}
use Rattle.cfn_store.specs.Standing.{history}
use Rattle.cfn_store.proofs.store.Store.lacking_apart.Given as goal

abbrev pub invariant-loop-value : goal.invariant-loop-value
invariant-loop-value l = record {
  behind : l.from ≤ l.value;
  passed : AreFreeBetween l.self.network (history l.self) l.f l.place l.from l.value;
}

abbrev pub decreases-loop-value : goal.decreases-loop-value
decreases-loop-value l = slice_index l.self.network.sizes l.x - l.value

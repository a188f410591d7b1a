use Rattle.std.proofs.Common.{◌-◌, ◌≤◌, length}
use Rattle.cfn_store.specs.Peaks.{AreLow}
use Rattle.cfn_store.specs.Standing.{history}
use Rattle.cfn_store.proofs.store.Store.next_unknown_peak.Given as goal

abbrev pub invariant-loop-x : goal.invariant-loop-x
invariant-loop-x l = (l.from ≤ l.x) × AreLow l.self.network (history l.self) l.from l.x l.bound

abbrev pub decreases-loop-x : goal.decreases-loop-x
decreases-loop-x l = length l.peaks.items - l.x
